use Rattle.std.proofs.Common.{false, length}
use Rattle.source.proofs.Walk.{Walk}
use Rattle.scanner.specs.Spaces.{skipped}
use Rattle.scanner.proofs.spaces.skip.Given as goal

abbrev pub invariant-loop-b : goal.invariant-loop-b
invariant-loop-b g l =
    Walk g.S.Source.model (g.S.Source.held l.initial.source) (g.S.Source.held l.source) (skipped l.comment)
    (skipped false (g.S.Source.model.rest (g.S.Source.held l.initial.source)))

abbrev pub decreases-loop-b : goal.decreases-loop-b
decreases-loop-b g l = length (g.S.Source.model.rest (g.S.Source.held l.source))
