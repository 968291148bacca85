use Rattle.std.proofs.Common.{◌≡◌, ◌∷◌, ℤ, pos, negsuc, nat_abs, ◌<ℤ◌, decimal, refl, arith}
use Rattle.std.specs.Fmt.{signed_decimal}
use Rattle.std.proofs.lemmas.Int.{ints}

pub signed_negative : (z : ℤ) → z <ℤ pos 0 → 45 ∷ decimal (nat_abs z) ≡ signed_decimal z
signed_negative (pos n) h = let no : ⊥ = grind (arith, ints) in absurd no
signed_negative (negsuc n) h = refl

pub signed_other : (z : ℤ) → (z <ℤ pos 0 → ⊥) → decimal (nat_abs z) ≡ signed_decimal z
signed_other (pos n) h = refl
signed_other (negsuc n) h = let no : negsuc n <ℤ pos 0 = grind (arith, ints) in absurd (h no)
