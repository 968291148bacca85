use Rattle.std.specs.Prelude.{Result, Ok, Err, ℕ, List, [], ◌∷◌, ◌++◌, Some, None, Option}
use Rattle.source.specs.declared.ending.Ending.{Ending}
use Rattle.source.specs.declared.ending.Ending.TheVariants.{Clean}
use Rattle.source.specs.Model.{Model, tail}
use Rattle.source.specs.Gone.{gone_to}
use Rattle.source.specs.Reads.{Read}
use Rattle.filter.specs.declared.layer.Layer.{Layer}
use Rattle.decoding.specs.Step.{StepOf, Holds, Own, own_of}
use Rattle.decoding.specs.Decoding.{Decoding, decode}

-- what a layer holds: its own, and what is held below
abbrev pub layer_held : {K L S H : Type 0} → (K → Holds L) → (S → H) → Layer K S → Own L × H
layer_held holds held l = (own_of (holds l.kind) l.ended, held l.below)

-- what stands in front: the first ready byte, or the ending
abbrev pub front_of : List ℕ → Option Ending → Result ℕ Ending
front_of (b ∷ bs) o = Ok b
front_of [] (Some e) = Err e
front_of [] None = Err Clean

-- the bytes and the ending still to be decoded; none once it has ended
abbrev pub bytes_ahead : Option Ending → Decoding → List ℕ
bytes_ahead None d = d.bytes
bytes_ahead (Some e) d = []

abbrev pub ending_ahead : Option Ending → Decoding → Ending
ending_ahead None d = d.ending
ending_ahead (Some e) d = e

module _ {K H : Type 0} (step : StepOf K) (m : Model H) where
  -- the step that a filter makes over what stands below, and what that leaves
  abbrev pub step_at : Own K × H → Read (Own K)
  step_at l = step l.0.kind l.0.compared (m.rest l.1) (m.ending l.1)

  abbrev pub stepped : Own K × H → Own K × H
  stepped l = ((step_at l).answer, gone_to m l.1 (step_at l).left (step_at l).peeked)

  abbrev pub ahead : Own K × H → Decoding
  ahead l = decode step l.0.kind l.0.compared (m.rest l.1) (m.ending l.1)

  -- its rest is what is ready, then what is still to be decoded
  abbrev pub layer_rest : Own K × H → List ℕ
  layer_rest l = l.0.ready ++ bytes_ahead l.0.ended (ahead l)

  abbrev pub layer_ending : Own K × H → Ending
  layer_ending l = ending_ahead l.0.ended (ahead l)

  -- a look makes a step if nothing is ready and the filter has not ended
  abbrev pub looked_by : List ℕ → Option Ending → Own K × H → Own K × H
  looked_by [] None l = stepped l
  looked_by [] (Some e) l = l
  looked_by (b ∷ bs) None l = l
  looked_by (b ∷ bs) (Some e) l = l

  abbrev pub layer_looked : Own K × H → Own K × H
  layer_looked l = looked_by l.0.ready l.0.ended l

  -- the first ready byte is handed up
  abbrev pub handed : Own K × H → Own K × H
  handed l = (record { ready = tail l.0.ready; compared = l.0.compared; kind = l.0.kind; ended = l.0.ended }, l.1)

  -- a take is a look and then hands up what is ready first
  abbrev pub layer_model : Model (Own K × H)
  layer_model = record { rest = layer_rest; ending = layer_ending; looked = layer_looked; taken = λ l. handed (layer_looked l) }
