use Rattle.std.proofs.Common.{length}
use Rattle.ascii.proofs.Ascii85Uses.{Gathering}
use Rattle.ascii.proofs.ascii85.next_group.Given as goal

abbrev pub invariant-loop-b : goal.invariant-loop-b
invariant-loop-b g l =
    Gathering g.S.Source.model (g.S.Source.held l.initial.below) (g.S.Source.held l.below) l.group

abbrev pub decreases-loop-b : goal.decreases-loop-b
decreases-loop-b g l = length (g.S.Source.model.rest (g.S.Source.held l.below))
