use Rattle.std.proofs.Common.{◌+◌, ◌-◌, ◌*◌, ◌≤◌, length, refl, arith}
use Rattle.listing.specs.Placing.{Placed}
use Rattle.listing.specs.Shown.{hexadecimal}
use Rattle.listing.proofs.PlacingUses.{placed_part, placed_length, placed_as}
use Rattle.listing.proofs.PutUses.{taken_once}
use Rattle.listing.proofs.ShownUses.{length_hexadecimal}
use Rattle.listing.proofs.area.AreaSink.put_pairs.Goals as goal

pub returns-then-self-bytes : goal.returns-then-self-bytes
returns-then-self-bytes c = record { line = refl; short = omega (arith, length_hexadecimal c.args.bytes.now, c.if-self-bytes.true) }

pub returns : goal.returns
returns c =
    let area = c.args.self.now in
    let text = hexadecimal c.args.bytes.now in
    let size = length_hexadecimal c.args.bytes.now in
    let room : area.at + length text ≤ length area.bytes.now = omega (arith, area.within, size, c.if-self-bytes.false) in
    let part = placed_part area.at text area.bytes.now c.write_pairs.new.place (area.at + 2 * length c.args.bytes.now - area.at) room c.write_pairs.ensures (omega (arith, size)) in
    let placed : Placed area.at text area.bytes.now (area.at + 2 * length c.args.bytes.now) _ = placed_as part refl (omega (arith, size)) in
    taken_once _ _ _ (refl, placed) (omega (arith, placed_length placed))
