use Rattle.std.proofs.Common.{arith}
use Rattle.listing.proofs.PutUses.{taken_once}
use Rattle.listing.proofs.room.RoomSink.put_all.Goals as goal

pub returns : goal.returns
returns c = taken_once _ _ _ tt (grind arith)
