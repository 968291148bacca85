use Rattle.std.specs.Prelude.{ℕ, List, []}
use Rattle.ascii.specs.declared.made.Made.{Made}
use Rattle.decoding.specs.Step.{Own}

-- what is held once a step has made some bytes, or an ending, or both, where `bytes` says which bytes are ready
abbrev pub own_made : {K R : Type 0} → (R → List ℕ) → K → Made R → Own K
own_made bytes k m = record { ready = bytes m.ready; compared = []; kind = k; ended = m.ended }
