use Rattle.std.specs.Prelude.{◌≡◌, ℕ, ◌+◌, ◌<◌, true, List, [], ◌∷◌, ◌++◌, length}
use Rattle.scanner.specs.Numbers.{sign, power, real_of}
use Rattle.scanner.specs.FigureLaw.{Figures}

-- nothing, or a sign
pub data Sign : List ℕ → Type 0 where
  no_sign : Sign []
  a_sign : (b : ℕ) → sign b ≡ true → Sign (b ∷ [])

-- digits, at most one point among them, at least one digit
pub data Mantissa : List ℕ → Type 0 where
  pointless : (whole : List ℕ) → Figures 10 whole → 0 < length whole → Mantissa whole
  pointed : (whole fraction : List ℕ) → Figures 10 whole → Figures 10 fraction → 0 < length whole + length fraction → Mantissa (whole ++ 46 ∷ fraction)

-- nothing, or e or E, an optional sign and digits
pub data Exponent : List ℕ → Type 0 where
  no_exponent : Exponent []
  an_exponent :
      (b : ℕ) (minus digits : List ℕ) → power b ≡ true → Sign minus → Figures 10 digits → 0 < length digits → Exponent (b ∷ (minus ++ digits))

-- a real in its parts
pub record Real (s : List ℕ) : Type 0 where
  pub minus : List ℕ
  pub mantissa : List ℕ
  pub tail : List ℕ
  pub parts : s ≡ minus ++ (mantissa ++ tail)
  pub is_sign : Sign minus
  pub is_mantissa : Mantissa mantissa
  pub is_exponent : Exponent tail

-- a run is found to be a real exactly if it is one
pub record RealLaw : Type 0 where
  pub found : (s : List ℕ) → real_of s ≡ true → Real s
  pub all : (s : List ℕ) → Real s → real_of s ≡ true
