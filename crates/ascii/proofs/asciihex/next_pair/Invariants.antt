use Rattle.std.proofs.Common.{length, None}
use Rattle.source.proofs.Walk.{Walk}
use Rattle.ascii.specs.AsciiHex.{hex_at}
use Rattle.ascii.proofs.asciihex.next_pair.Given as goal

abbrev pub invariant-loop-b : goal.invariant-loop-b
invariant-loop-b g l =
    Walk g.S.Source.model (g.S.Source.held l.initial.below) (g.S.Source.held l.below)
    (λ r. hex_at l.pending r (g.S.Source.model.ending (g.S.Source.held l.initial.below)))
    (hex_at None (g.S.Source.model.rest (g.S.Source.held l.initial.below)) (g.S.Source.model.ending (g.S.Source.held l.initial.below)))

abbrev pub decreases-loop-b : goal.decreases-loop-b
decreases-loop-b g l = length (g.S.Source.model.rest (g.S.Source.held l.below))
