use Rattle.scanner.proofs.Mapped.{given_back}
use Rattle.scanner.proofs.HexUses.{hexed_wait, hexed_put, hexed_done, hexed_stray, hexed_put_full, hexed_last}
use Rattle.scanner.proofs.hex.hex_string.Goals as goal

pub returns-in-Done : goal.returns-in-Done
returns-in-Done g c =
    hexed_done g.S.Source.model g.met.S.Source.lawful _ _ _ _ _ _ c.loop-b.pending c.in_ok-b.b c.loop-b.invariant _ _ c.next_byte.ensures c.in_ok-b.ensures.cases c.in_ok-b.ensures.variant c.in-Done.ensures

pub returns-in-Stray : goal.returns-in-Stray
returns-in-Stray g c =
    hexed_stray g.S.Source.model g.met.S.Source.lawful _ _ _ _ _ _ c.loop-b.pending c.in_ok-b.b c.loop-b.invariant _ _ c.next_byte.ensures c.in_ok-b.ensures.cases c.in_ok-b.ensures.variant c.in-Stray.ensures

pub loop-b-preserved-in-Wait : goal.loop-b-preserved-in-Wait
loop-b-preserved-in-Wait g c =
    hexed_wait g.S.Source.model g.met.S.Source.lawful _ _ _ _ _ _ c.loop-b.pending c.in_ok-b.b c.loop-b.invariant _ _ c.next_byte.ensures c.in_ok-b.ensures.cases c.in_ok-b.ensures.variant c.in-Wait.half c.in-Wait.ensures

pub loop-b-preserved : goal.loop-b-preserved
loop-b-preserved g c =
    hexed_put g.S.Source.model g.met.S.Source.lawful _ _ _ _ _ _ c.loop-b.pending c.in_ok-b.b c.loop-b.invariant _ _ c.next_byte.ensures c.in_ok-b.ensures.cases c.in_ok-b.ensures.variant c.in-Put.v c.in_ok-n-in-Put.n c.put.new.area c.in-Put.ensures c.loop-b.auto.area c.in_ok-n-in-Put.ensures

pub returns-in-Last : goal.returns-in-Last
returns-in-Last g c =
    hexed_last g.S.Source.model g.met.S.Source.lawful _ _ _ _ _ _ c.loop-b.pending c.in_ok-b.b c.loop-b.invariant _ _ c.next_byte.ensures c.in_ok-b.ensures.cases c.in_ok-b.ensures.variant c.in-Last.v c.put-in-Last.result _ c.in-Last.ensures c.loop-b.auto.area c.put-in-Last.ensures

pub returns-in_err-n-in-Put : goal.returns-in_err-n-in-Put
returns-in_err-n-in-Put g c =
    rw (given_back c.from_residual-in_err-n-in-Put.result _ c.from_residual-in_err-n-in-Put.ensures.1)
    (hexed_put_full g.S.Source.model g.met.S.Source.lawful _ _ _ _ _ _ c.loop-b.pending c.in_ok-b.b c.loop-b.invariant _ _ c.next_byte.ensures c.in_ok-b.ensures.cases c.in_ok-b.ensures.variant c.in-Put.v c.in_err-n-in-Put.field-0.0 c.put.new.area c.in-Put.ensures c.loop-b.auto.area c.in_err-n-in-Put.ensures)
