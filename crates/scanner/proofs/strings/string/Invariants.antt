use Rattle.std.proofs.Common.{length}
use Rattle.scanner.proofs.StringUses.{Strung}
use Rattle.scanner.proofs.strings.string.Given as goal

abbrev pub invariant-loop-piece : goal.invariant-loop-piece
invariant-loop-piece g l =
    Strung g.S.Source.model (g.S.Source.held l.initial.source) (g.S.Source.held l.source) l.initial.area l.area l.n l.depth

abbrev pub decreases-loop-piece : goal.decreases-loop-piece
decreases-loop-piece g l = length (g.S.Source.model.rest (g.S.Source.held l.source))
