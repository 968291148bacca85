use Rattle.std.proofs.Common.{◌+◌, ◌-◌, ◌≤◌, length, refl, arith}
use Rattle.listing.proofs.PlacingUses.{placed_part, placed_length}
use Rattle.listing.proofs.PutUses.{taken_once}
use Rattle.listing.proofs.area.AreaSink.put_all.Goals as goal

pub returns : goal.returns
returns c =
    let area = c.args.self.now in
    let room : area.at + length c.args.bytes.now ≤ length area.bytes.now = omega (arith, area.within) in
    let placed = placed_part area.at c.args.bytes.now area.bytes.now c.copy_from_slice.new.self (area.at + length c.args.bytes.now - area.at) room c.copy_from_slice.ensures.after (omega arith) in
    taken_once _ _ _ (refl, placed) (omega (arith, placed_length placed))
