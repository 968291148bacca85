use Rattle.std.proofs.Common.{refl, arith}
use Rattle.listing.proofs.PutUses.{taken_once}
use Rattle.listing.proofs.ShownUses.{length_hexadecimal}
use Rattle.listing.proofs.room.RoomSink.put_pairs.Goals as goal

pub returns-then-self-bytes : goal.returns-then-self-bytes
returns-then-self-bytes c = record { line = refl; short = omega (arith, length_hexadecimal c.args.bytes.now, c.if-self-bytes.true) }

pub returns : goal.returns
returns c = taken_once _ _ _ tt (omega (arith, length_hexadecimal c.args.bytes.now, c.if-self-bytes.false))
