use Rattle.std.proofs.Common.{length}
use Rattle.source.proofs.Walk.{Walk}
use Rattle.ascii.specs.Ascii85.{a85_mark}
use Rattle.ascii.proofs.ascii85.take_mark.Given as goal

abbrev pub invariant-loop-b : goal.invariant-loop-b
invariant-loop-b g l =
    Walk g.S.Source.model (g.S.Source.held l.initial.below) (g.S.Source.held l.below)
    (λ r. a85_mark r (g.S.Source.model.ending (g.S.Source.held l.initial.below)))
    (a85_mark (g.S.Source.model.rest (g.S.Source.held l.initial.below)) (g.S.Source.model.ending (g.S.Source.held l.initial.below)))

abbrev pub decreases-loop-b : goal.decreases-loop-b
decreases-loop-b g l = length (g.S.Source.model.rest (g.S.Source.held l.below))
