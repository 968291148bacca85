use Rattle.std.proofs.Common.{◌≤◌, [], length, take}
use Rattle.source.proofs.Walk.{Walk}
use Rattle.scanner.specs.Runs.{run_at}
use Rattle.scanner.proofs.Area.{Written}
use Rattle.scanner.proofs.runs.run.Given as goal

abbrev pub invariant-loop-b : goal.invariant-loop-b
invariant-loop-b g l =
    Walk g.S.Source.model (g.S.Source.held l.initial.source) (g.S.Source.held l.source) (run_at (take l.n l.area))
    (run_at [] (g.S.Source.model.rest (g.S.Source.held l.initial.source)))
    × Written l.initial.area l.area l.n
    × (l.n ≤ 127)

abbrev pub decreases-loop-b : goal.decreases-loop-b
decreases-loop-b g l = length (g.S.Source.model.rest (g.S.Source.held l.source))
