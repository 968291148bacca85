use Rattle.std.proofs.Common.{length, vec_items}
use Rattle.t1dump.proofs.ListUses.{Listing}
use Rattle.t1dump.proofs.lister.Lister.list_all.Given as goal

abbrev pub invariant-loop-out : goal.invariant-loop-out
invariant-loop-out g l =
    Listing 4096 g.S.Source.model (g.S.Source.held l.initial.self.source) (g.S.Source.held l.self.source) (vec_items l.initial.out) (vec_items l.out)

abbrev pub decreases-loop-out : goal.decreases-loop-out
decreases-loop-out g l = length (g.S.Source.model.rest (g.S.Source.held l.self.source))
