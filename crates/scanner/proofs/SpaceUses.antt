use Rattle.std.proofs.Common.{◌≡◌, ℕ, Bool, List, ◌∷◌, Some, sym, ap}
use Rattle.scanner.specs.Spaces.{passes, skip_by, skipped}

pub skip_on : (c o : Bool) (b : ℕ) (bs : List ℕ) → Some o ≡ passes c b → skipped c (b ∷ bs) ≡ skipped o bs
skip_on c o b bs e = ap (λ p. skip_by p (b ∷ bs) (λ o. skipped o bs)) (sym e)
