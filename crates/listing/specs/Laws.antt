use Rattle.std.specs.Prelude.{◌≡◌, ℕ, ◌^◌, ◌<◌, List, length, decimal, slice_index_or}
use Rattle.scanner.specs.FigureLaw.{worth, Figures}
use Rattle.listing.specs.Shown.{escaped, hexadecimal}

-- decimal figures that are worth a number, place by place, of which the first is no 0 but for the number 0, which is one
-- figure
pub record Numeral (n : ℕ) (figures : List ℕ) : Type 0 where
  pub some : 0 < length figures
  pub each : Figures 10 figures
  pub number : worth 10 figures ≡ n
  pub first : slice_index_or figures 0 0 ≡ 48 → (n ≡ 0) × (length figures ≡ 1)

-- numbers of up to 64 bits are written in decimal
abbrev pub Decimals : Type 0
Decimals = (n : ℕ) → n < 2 ^ 64 → Numeral n (decimal n)

-- two names that are shown alike are one, and so are two strings
pub record ToldApart : Type 0 where
  pub names : (a b : List ℕ) → escaped a ≡ escaped b → a ≡ b
  pub strings : (a b : List ℕ) → hexadecimal a ≡ hexadecimal b → a ≡ b
