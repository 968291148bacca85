use Rattle.std.proofs.Common.{◌≡◌, ℕ, List, [], Some}
use Rattle.source.specs.declared.ending.Ending.{Ending}
use Rattle.ascii.specs.declared.made.Made.{Made}
use Rattle.ascii.specs.Made.{own_made}

-- a step that made an ending and no byte
pub own_end :
    {K R : Type 0} (bytes : R → List ℕ) (m : Made R) {k : K} {x : Ending} → bytes m.ready ≡ [] → m.ended ≡ Some x
    → own_made bytes k m ≡ record { ready = []; compared = []; kind = k; ended = Some x }
own_end bytes m {k} {x} p q = cc
