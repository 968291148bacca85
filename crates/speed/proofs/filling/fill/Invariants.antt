use Rattle.speed.proofs.FillUses.{Filling}
use Rattle.speed.proofs.filling.fill.Given as goal

abbrev pub invariant-loop-n : goal.invariant-loop-n
invariant-loop-n g l =
    Filling g.S.Source.model (g.S.Source.held l.initial.source) (g.S.Source.held l.source) l.initial.area l.area l.n
