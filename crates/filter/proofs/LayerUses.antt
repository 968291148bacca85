use Rattle.std.proofs.Common.{◌≡◌, ℕ, List, [], ◌∷◌, ◌++◌, Some, None, Option, sym, refl, ap, ◌∙◌, subst, ap₂, arith}
use Rattle.source.specs.declared.ending.Ending.{Ending}
use Rattle.source.specs.Model.{Model, first}
use Rattle.source.specs.Laws.{Lawful}
use Rattle.decoding.specs.Step.{StepOf, LawfulStep, Own, Filled}
use Rattle.decoding.specs.Decoding.{Decoding}
use Rattle.filter.specs.Layers.{ahead, bytes_ahead, ending_ahead, layer_rest, layer_ending, layer_looked, front_of}
use Rattle.filter.specs.LayerSound.{Settled, settled_looked, look_rest, look_ending}

-- where a byte is ready or the filter has ended, what stands in front is the first byte of the rest, or the ending
front_first :
    (r : List ℕ) (o : Option Ending) (d : Decoding) → (o ≡ None → Filled r)
    → front_of r o ≡ first (r ++ bytes_ahead o d) (ending_ahead o d)
front_first (b ∷ bs) o d f = refl
front_first [] (Some e) d f = refl
front_first [] None d f =
    let g : Filled [] = f refl in
    let e : ◌≡◌ {A = List ℕ} [] (g.0 ∷ g.1) = g.2 in
    let z : ◌≡◌ {A = ℕ} 0 1 = cc in let no_way : ⊥ = omega arith in absurd no_way

module _ {K : Type 0} (step : StepOf K) (law : LawfulStep K step) {H : Type 0} (m : Model H) (l : Lawful H m) where
  -- what stands in front of a layer that was looked at is what a look and a take answer
  pub answered :
      (x y : Own K × H) → y ≡ layer_looked step m x
      → front_of y.0.ready y.0.ended ≡ first (layer_rest step m x) (layer_ending step m x)
  answered x y e =
      front_first y.0.ready y.0.ended (ahead step m y) (subst Settled (sym e) (settled_looked step law m l x))
      ∙ ap₂ first (ap (layer_rest step m) e ∙ look_rest step law m l x) (ap (layer_ending step m) e ∙ look_ending step law m l x)
