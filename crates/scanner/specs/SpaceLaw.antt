use Rattle.std.specs.Prelude.{◌≡◌, ℕ, true, false, List, [], ◌∷◌, ◌++◌}
use Rattle.source.specs.declared.ending.Ending.{Ending}
use Rattle.source.specs.Bytes.{white}
use Rattle.scanner.specs.Spaces.{line_end}
use Rattle.scanner.specs.Tokens.{ended_token, bare, unfit, token_of}

-- none ends a comment
abbrev pub OneLine : List ℕ → Type 0
OneLine [] = Unit {0}
OneLine (b ∷ bs) = (line_end b ≡ false) × OneLine bs

-- white bytes and comments before a token make no difference to it
pub record SpaceLaw : Type 0 where
  pub whites : (room b : ℕ) (rest : List ℕ) (e : Ending) → unfit room ≡ false → white b ≡ true → token_of room (b ∷ rest) e ≡ token_of room rest e
  -- a comment runs from % up to a line end
  pub comments :
      (room : ℕ) (text : List ℕ) (b : ℕ) (rest : List ℕ) (e : Ending) → unfit room ≡ false → OneLine text → line_end b ≡ true
      → token_of room (37 ∷ (text ++ b ∷ rest)) e ≡ token_of room (b ∷ rest) e
  -- or up to the ending
  pub last_comment : (room : ℕ) (text : List ℕ) (e : Ending) → unfit room ≡ false → OneLine text → token_of room (37 ∷ text) e ≡ bare (ended_token e) [] true
