use Rattle.std.specs.Prelude.{◌≡◌, ℕ, zero, suc, ◌+◌, ◌<◌, List, length, Some, None, Option}
use Rattle.std.proofs.Math.Path.{refl, ap}
use Rattle.std.proofs.Common.{arith}
use Rattle.source.specs.declared.ending.Ending.{Ending}
use Rattle.decoding.specs.Step.{StepOf, LawfulStep}
use Rattle.decoding.specs.Decoding.{then, decoding, decode}

module _ {K : Type 0} (step : StepOf K) (law : LawfulStep K step) where
  -- more fuel than enough changes nothing
  pub fuel_free :
      (n j : ℕ) (k : K) (c bs : List ℕ) (e : Ending)
      → length c + length bs < n → length c + length bs < j → decoding step n k c bs e ≡ decoding step j k c bs e
  fuel_free zero j k c bs e p q = let no_way : ⊥ = omega arith in absurd no_way
  fuel_free (suc n) zero k c bs e p q = let no_way : ⊥ = omega arith in absurd no_way
  fuel_free (suc n) (suc j) k c bs e p q =
      by_end (step k c bs e).answer.ended (λ o.
      fuel_free n j (step k c bs e).answer.kind (step k c bs e).answer.compared (step k c bs e).left e
      (omega (arith, (law k c bs e).falls o)) (omega (arith, (law k c bs e).falls o))) refl
    where
      by_end :
          (o : Option Ending)
          → ((step k c bs e).answer.ended ≡ None
          → decoding step n (step k c bs e).answer.kind (step k c bs e).answer.compared (step k c bs e).left e
          ≡ decoding step j (step k c bs e).answer.kind (step k c bs e).answer.compared (step k c bs e).left e)
          → (step k c bs e).answer.ended ≡ o
          → then o (step k c bs e) (decoding step n (step k c bs e).answer.kind (step k c bs e).answer.compared (step k c bs e).left e)
          ≡ then o (step k c bs e) (decoding step j (step k c bs e).answer.kind (step k c bs e).answer.compared (step k c bs e).left e)
      by_end None ih o = ap (then None (step k c bs e)) (ih o)
      by_end (Some x) ih o = refl

  -- a decoding is a step and then the decoding of what that left: no proof below speaks of fuel again
  pub decode_step :
      (k : K) (c bs : List ℕ) (e : Ending)
      → decode step k c bs e
      ≡ then (step k c bs e).answer.ended (step k c bs e) (decode step (step k c bs e).answer.kind (step k c bs e).answer.compared (step k c bs e).left e)
  unfolding decode
  decode_step k c bs e = by_end (step k c bs e).answer.ended refl
    where
      by_end :
          (o : Option Ending) → (step k c bs e).answer.ended ≡ o
          → then o (step k c bs e) (decoding step (length c + length bs) (step k c bs e).answer.kind (step k c bs e).answer.compared (step k c bs e).left e)
          ≡ then o (step k c bs e) (decoding step (suc (length (step k c bs e).answer.compared + length (step k c bs e).left)) (step k c bs e).answer.kind (step k c bs e).answer.compared (step k c bs e).left e)
      by_end None o =
          ap (then None (step k c bs e))
          (fuel_free (length c + length bs) (suc (length (step k c bs e).answer.compared + length (step k c bs e).left)) (step k c bs e).answer.kind (step k c bs e).answer.compared (step k c bs e).left e
          ((law k c bs e).falls o) (omega arith))
      by_end (Some x) o = refl
