use Rattle.std.specs.Prelude.{◌≡◌, ℕ, true, false, List, [], ◌∷◌, Some, None, codes}
use Rattle.source.specs.declared.ending.Damage.TheVariants.{Stray, CutShort, Overflow}
use Rattle.source.specs.declared.ending.Ending.TheVariants.{Clean, Damaged}
use Rattle.decoding.specs.Decoding.{Decoding, gives, decode}
use Rattle.decoding.specs.Step.{makes}
use Rattle.ascii.specs.AsciiHex.{hex_step}

-- the decoding of a text with a clean end behind it
abbrev pub hexed : List ℕ → Decoding
hexed text = decode hex_step tt [] text Clean

-- worked examples
pub record AsciiHexExamples : Type 0 where
  pub spaced : hexed (codes "4 1>B") ≡ gives (codes "A") Clean (codes "B") false
  pub lone : hexed (codes "5>") ≡ gives (0x50 ∷ []) Clean [] false
  pub empty : hexed (codes ">\n") ≡ gives [] Clean (codes "\n") false
  pub both_cases : hexed (codes "fFaA0>") ≡ gives (0xFF ∷ 0xAA ∷ 0x00 ∷ []) Clean [] false
  pub all_white : hexed (0 ∷ 9 ∷ 10 ∷ 12 ∷ 13 ∷ 32 ∷ codes "7e>") ≡ gives (0x7E ∷ []) Clean [] false
  pub stray : hexed (codes "414x5>") ≡ gives (codes "A") (Damaged Stray 0) (codes "5>") false
  pub beyond_nine : hexed (codes "9:>") ≡ gives [] (Damaged Stray 0) (codes ">") false
  pub beyond_f : hexed (codes "fg>") ≡ gives [] (Damaged Stray 0) (codes ">") false
  pub beyond_capital_f : hexed (codes "FG>") ≡ gives [] (Damaged Stray 0) (codes ">") false
  pub tab_of_lines : hexed (11 ∷ codes "41>") ≡ gives [] (Damaged Stray 0) (codes "41>") false
  pub cut_short : hexed (codes "414") ≡ gives (codes "A") (Damaged CutShort 0) [] true
  pub damage_below : decode hex_step tt [] (codes "41") (Damaged Overflow 7) ≡ gives (codes "A") (Damaged Overflow 8) [] true
  pub deepest : decode hex_step tt [] [] (Damaged Stray 255) ≡ gives [] (Damaged Stray 255) [] true
  -- one step alone: no byte behind the second digit is taken, not even the >
  pub one_step : hex_step tt [] (codes " 41>B") Clean ≡ makes tt (codes "A") None (codes ">B")
  pub last_step : hex_step tt [] (codes "5 >B") Clean ≡ makes tt (codes "P") (Some Clean) (codes "B")
