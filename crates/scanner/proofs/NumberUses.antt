use Rattle.std.proofs.Common.{◌≡◌, ℕ, min, List, drop}
use Rattle.scanner.specs.Digits.{digits_behind}

-- v is the value of the first i digits, but for the cap
pub record Valued (base : ℕ) (s : List ℕ) (i v : ℕ) : Type 0 where
  pub value : ℕ
  pub held : v ≡ min value 4294967296
  pub on : digits_behind base value (drop i s) ≡ digits_behind base 0 s
