use Rattle.std.specs.Prelude.{ℕ, Bool, true, false, cond, not, ◌||◌, List, [], ◌∷◌, Some, None, Option, ◌==◌}
use Rattle.source.specs.Bytes.{white}

-- the bytes that end a comment: line feed, form feed, carriage return; each is white
abbrev pub line_end : ℕ → Bool
line_end b = b == 10 || (b == 12 || b == 13)

-- whether a comment is open behind the byte b, or nothing where b is not passed over
abbrev pub passes : Bool → ℕ → Option Bool
passes true b = Some (not (line_end b))
passes false b = cond (b == 37) (Some true) (cond (white b) (Some false) None)

abbrev pub skip_by : Option Bool → List ℕ → (Bool → List ℕ) → List ℕ
skip_by None here on = here
skip_by (Some c) here on = on c

-- what is left behind the white bytes and the comments, where a comment is open or not
abbrev pub skipped : Bool → List ℕ → List ℕ
skipped c [] = []
skipped c (b ∷ bs) = skip_by (passes c b) (b ∷ bs) (λ o. skipped o bs)
