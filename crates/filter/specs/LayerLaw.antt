use Rattle.std.specs.Prelude.{Result, Ok, Err, ◌≡◌, ℕ, zero, suc, List, [], ◌∷◌, ◌++◌, drop, Some, None, Option}
use Rattle.source.specs.declared.ending.Ending.{Ending}
use Rattle.source.specs.Model.{Model, first}
use Rattle.source.specs.Gone.{gone_to}
use Rattle.decoding.specs.Step.{StepOf, Own, fresh}
use Rattle.decoding.specs.Decoding.{decode}
use Rattle.filter.specs.Layers.{stepped, layer_rest, layer_ending, layer_looked, handed}

-- what may be asked of a filter
pub data Ask : Type 0 where
  look : Ask
  take : Ask

-- the byte in an answer, if there is one
abbrev pub byte_in : Result ℕ Ending → List ℕ
byte_in (Ok b) = b ∷ []
byte_in (Err e) = []

-- one step more where no byte is ready and the filter has not ended
abbrev pub counted : List ℕ → Option Ending → ℕ → ℕ
counted [] None n = suc n
counted [] (Some e) n = n
counted (b ∷ bs) None n = n
counted (b ∷ bs) (Some e) n = n

module _ {K H : Type 0} (step : StepOf K) (m : Model H) where
  -- what is held after one question, and after several in their order
  abbrev pub after_one : Ask → Own K × H → Own K × H
  after_one look l = layer_looked step m l
  after_one take l = handed step m (layer_looked step m l)

  abbrev pub after : List Ask → Own K × H → Own K × H
  after [] l = l
  after (a ∷ asks) l = after asks (after_one a l)

  -- the bytes that the takes among them answer
  abbrev pub got : List Ask → Own K × H → List ℕ
  got [] l = []
  got (look ∷ asks) l = got asks (after_one look l)
  got (take ∷ asks) l = byte_in (first (layer_rest step m l) (layer_ending step m l)) ++ got asks (after_one take l)

  -- how many steps are made then, n having been made before
  abbrev pub made : ℕ → List Ask → Own K × H → ℕ
  made n [] l = n
  made n (a ∷ asks) l = made (counted l.0.ready l.0.ended n) asks (after_one a l)

  -- n steps, one after another
  abbrev pub steps : ℕ → Own K × H → Own K × H
  steps zero l = l
  steps (suc n) l = stepped step m (steps n l)

-- the same with the first i of the ready bytes handed up
abbrev pub less : {K H : Type 0} → ℕ → Own K × H → Own K × H
less i l = (record { ready = drop i l.0.ready; compared = l.0.compared; kind = l.0.kind; ended = l.0.ended }, l.1)

-- what is true of a filter of the kind k that was made over what held h, and then asked
pub record Asked {K H : Type 0} (step : StepOf K) (m : Model H) (k : K) (h : H) (asks : List Ask) : Type 0 where
  -- what was got and what is still to come is the decoding of what stood below: no byte is lost, doubled or shifted
  pub whole : (decode step k [] (m.rest h) (m.ending h)).bytes ≡ got step m asks (fresh k, h) ++ layer_rest step m (after step m asks (fresh k, h))
  pub ending : layer_ending step m (after step m asks (fresh k, h)) ≡ (decode step k [] (m.rest h) (m.ending h)).ending
  -- it and what stands below are exactly as the last of the steps left them, but for the bytes handed up since; so what
  -- stands below is untouched where no step was made
  pub gave : ℕ
  pub exactly : after step m asks (fresh k, h) ≡ less gave (steps step m (made step m 0 asks (fresh k, h)) (fresh k, h))
  -- once it has ended, what stands below stands where the decoding leaves it
  pub finished :
      (x : Ending) → (after step m asks (fresh k, h)).0.ended ≡ Some x
      → (after step m asks (fresh k, h)).1
      ≡ gone_to m h (decode step k [] (m.rest h) (m.ending h)).left (decode step k [] (m.rest h) (m.ending h)).peeked

-- whatever is asked
abbrev pub LayerLaw : {K H : Type 0} → StepOf K → Model H → Type 0
LayerLaw {K} {H} step m = (k : K) (h : H) (asks : List Ask) → Asked step m k h asks
