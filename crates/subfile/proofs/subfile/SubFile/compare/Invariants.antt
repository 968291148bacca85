use Rattle.std.proofs.Common.{length}
use Rattle.subfile.specs.Holding.{filled_of}
use Rattle.subfile.specs.SubFile.{sub_holds}
use Rattle.subfile.proofs.SubFileUses.{Comparing}
use Rattle.subfile.proofs.subfile.SubFile.compare.Given as goal

abbrev pub invariant-loop-self : goal.invariant-loop-self
invariant-loop-self g l =
    Comparing g.S.Source.model (g.S.Source.held l.initial.below) (g.S.Source.held l.below)
    (sub_holds l.initial.self) (sub_holds l.self) (filled_of l.self.held)

abbrev pub decreases-loop-self : goal.decreases-loop-self
decreases-loop-self g l = length (g.S.Source.model.rest (g.S.Source.held l.below))
