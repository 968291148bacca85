use Rattle.std.proofs.Common.{length}
use Rattle.source.proofs.Walk.{Walk}
use Rattle.eexec.specs.Eexec.{lead_of}
use Rattle.eexec.proofs.head.take_behind_blanks.Given as goal

abbrev pub invariant-loop-b : goal.invariant-loop-b
invariant-loop-b g l =
    Walk g.S.Source.model (g.S.Source.held l.initial.below) (g.S.Source.held l.below)
    (λ r. lead_of r (g.S.Source.model.ending (g.S.Source.held l.initial.below)))
    (lead_of (g.S.Source.model.rest (g.S.Source.held l.initial.below)) (g.S.Source.model.ending (g.S.Source.held l.initial.below)))

abbrev pub decreases-loop-b : goal.decreases-loop-b
decreases-loop-b g l = length (g.S.Source.model.rest (g.S.Source.held l.below))
