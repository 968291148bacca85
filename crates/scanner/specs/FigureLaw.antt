use Rattle.std.specs.Prelude.{◌≡◌, ℕ, ◌+◌, ◌*◌, ◌^◌, ◌<◌, ◌≤◌, List, [], ◌∷◌, ◌++◌, length, pos, neg_ℤ, Ok}
use Rattle.source.specs.Bytes.{digit_value}
use Rattle.scanner.specs.declared.kinds.Kind.TheVariants.{Integer, Real}
use Rattle.scanner.specs.Numbers.{twos_of, word_of}

-- the number that figures stand for in a base: each counts by its place
abbrev pub worth : ℕ → List ℕ → ℕ
worth base [] = 0
worth base (b ∷ bs) = digit_value b * base ^ length bs + worth base bs

-- each is a digit below the base
abbrev pub Figures : ℕ → List ℕ → Type 0
Figures base [] = Unit {0}
Figures base (b ∷ bs) = (digit_value b < base) × Figures base bs

-- an integer has the value of its figures; beyond 32 signed bits it is a real; a radix number has the value of its
-- figures in the base that stands before #, as 32 bits in two's complement
pub record FigureLaw : Type 0 where
  pub unsigned : (s : List ℕ) → 0 < length s → Figures 10 s → worth 10 s ≤ 2147483647 → word_of s ≡ Ok (Integer (pos (worth 10 s)))
  pub plus : (s : List ℕ) → 0 < length s → Figures 10 s → worth 10 s ≤ 2147483647 → word_of (43 ∷ s) ≡ Ok (Integer (pos (worth 10 s)))
  pub minus : (s : List ℕ) → 0 < length s → Figures 10 s → worth 10 s ≤ 2147483648 → word_of (45 ∷ s) ≡ Ok (Integer (neg_ℤ (pos (worth 10 s))))
  pub beyond : (s : List ℕ) → Figures 10 s → 2147483647 < worth 10 s → word_of s ≡ Ok Real
  pub plus_beyond : (s : List ℕ) → Figures 10 s → 2147483647 < worth 10 s → word_of (43 ∷ s) ≡ Ok Real
  pub minus_beyond : (s : List ℕ) → Figures 10 s → 2147483648 < worth 10 s → word_of (45 ∷ s) ≡ Ok Real
  pub radix :
      (base s : List ℕ) → 0 < length base → length base ≤ 2 → Figures 10 base → 2 ≤ worth 10 base → worth 10 base ≤ 36
      → 0 < length s → Figures (worth 10 base) s → word_of (base ++ 35 ∷ s) ≡ twos_of (worth (worth 10 base) s)
