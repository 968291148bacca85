use Rattle.std.proofs.Common.{ap₂}
use Rattle.listing.specs.Lines.{newline, fault_text}
use Rattle.listing.proofs.PutUses.{taken_then, puts_last}
use Rattle.listing.proofs.text.put_fault.Goals as goal

pub returns : goal.returns
returns g c =
    puts_last newline (fault_text c.args.number c.args.depth) c.put-2.result c.put-2.new.self
    (taken_then (taken_then (taken_then c.in_ok-put_all.ensures c.in_ok-put_number.ensures) c.in_ok-put.ensures) c.in_ok-put_number-2.ensures)
    c.put-2.ensures
    (ap₂ fault_text c.from.ensures c.from-2.ensures)
