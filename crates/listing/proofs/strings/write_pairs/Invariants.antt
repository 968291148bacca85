use Rattle.std.proofs.Common.{◌*◌, take}
use Rattle.listing.specs.Placing.{Placed}
use Rattle.listing.specs.Shown.{hexadecimal}
use Rattle.listing.proofs.strings.write_pairs.Given as goal

abbrev pub invariant-loop-i : goal.invariant-loop-i
invariant-loop-i l = Placed 0 (hexadecimal (take l.i l.content)) l.initial.place (2 * l.i) l.place
