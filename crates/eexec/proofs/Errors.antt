use Rattle.std.proofs.Common.{◌≡◌, Ok, Err, Result}
use Rattle.std.specs.Result.{MatchResult, is_ok}

-- what is well once its error was changed was so before
pub was_ok :
    {T D E : Type 0} {r : Result T D} {r' : Result T E} (Q : D → Type 0) {x : T}
    → MatchResult r (λ y. r' ≡ Ok y) Q → is_ok r' ≡ is_ok r → r' ≡ Ok x → Ok x ≡ r
was_ok {r = Ok y} Q p v q = cc (p, q)
was_ok {r = Err e} Q p v q = cc (v, q)
