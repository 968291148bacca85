use Rattle.std.specs.Prelude.{◌≡◌, ℕ, false, cond, List, [], ◌++◌}
use Rattle.source.specs.declared.ending.Ending.{Ending}
use Rattle.scanner.specs.Tokens.{unfit, token_of}
use Rattle.t1dump.specs.Texts.{answer_text, goes_on, lines_of}

-- the listing of a text is the line of its first token, and then the listing of what that token leaves, unless it was
-- the end or a fault
abbrev pub LinesLaw : Type 0
LinesLaw =
    (room : ℕ) → unfit room ≡ false → (rest : List ℕ) (e : Ending)
    → lines_of room rest e
    ≡ answer_text (token_of room rest e).answer (token_of room rest e).content
    ++ cond (goes_on (token_of room rest e).answer) (lines_of room (token_of room rest e).left e) []
