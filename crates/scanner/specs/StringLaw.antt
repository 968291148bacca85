use Rattle.std.specs.Prelude.{◌≡◌, ℕ, ◌≤◌, false, cond, List, [], ◌∷◌, ◌++◌, length, Ok, ◌==◌}
use Rattle.std.specs.List.{flat_map}
use Rattle.source.specs.declared.ending.Ending.{Ending}
use Rattle.scanner.specs.declared.kinds.Kind.TheVariants.{String}
use Rattle.scanner.specs.Kinds.{token}
use Rattle.scanner.specs.Tokens.{unfit, token_of}

-- a byte as it is written in a string: parentheses and backslashes with a backslash before them, the line ends 10 and
-- 13 as \n and \r, any other byte as it is
abbrev pub spelled : ℕ → List ℕ
spelled b =
    cond (b == 40) (92 ∷ 40 ∷ [])
    (cond (b == 41) (92 ∷ 41 ∷ [])
    (cond (b == 92) (92 ∷ 92 ∷ [])
    (cond (b == 10) (92 ∷ 110 ∷ [])
    (cond (b == 13) (92 ∷ 114 ∷ []) (b ∷ [])))))

-- what is written again in this way, in parentheses, scans as what it was, and nothing behind the ) is looked at
abbrev pub StringLaw : Type 0
StringLaw =
    (room : ℕ) (content behind : List ℕ) (e : Ending) → unfit room ≡ false → length content ≤ room
    → token_of room (40 ∷ (flat_map spelled content ++ 41 ∷ behind)) e
    ≡ record { answer = Ok (token String (length content)); content = content; left = behind; peeked = false }
