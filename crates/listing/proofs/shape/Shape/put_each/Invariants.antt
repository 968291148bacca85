use Rattle.std.proofs.Common.{take}
use Rattle.std.specs.List.{flat_map}
use Rattle.listing.specs.Puts.{Taken}
use Rattle.listing.proofs.shape.Shape.put_each.Given as goal

abbrev pub invariant-loop-b : goal.invariant-loop-b
invariant-loop-b g l = Taken g.S.Sink.room g.S.Sink.takes l.initial.out (flat_map g.Self.Shape.shows (take l.b-index l.content)) l.out
