use Rattle.std.proofs.Common.{length}
use Rattle.scanner.proofs.HexUses.{Hexed}
use Rattle.scanner.proofs.hex.hex_string.Given as goal

abbrev pub invariant-loop-b : goal.invariant-loop-b
invariant-loop-b g l =
    Hexed g.S.Source.model (g.S.Source.held l.initial.source) (g.S.Source.held l.source) l.initial.area l.area l.n l.pending

abbrev pub decreases-loop-b : goal.decreases-loop-b
decreases-loop-b g l = length (g.S.Source.model.rest (g.S.Source.held l.source))
