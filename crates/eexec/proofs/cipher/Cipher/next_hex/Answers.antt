use Rattle.std.proofs.Common.{arith}
use Rattle.eexec.proofs.HexUses.{hex_first, hex_kept, hex_drop, hex_stray, hex_blank}
use Rattle.eexec.proofs.cipher.Cipher.next_hex.Goals as goal

pub returns-then-left-eq0 : goal.returns-then-left-eq0
returns-then-left-eq0 g c =
    hex_kept g.met.S.Source.lawful _ _ _ _ _ c.loop-b.invariant c.take.ensures.after
    _ c.map_err.ensures.cases c.map_err.ensures.variant c.in_ok-b.was c.take.ensures.answer c.in-Some-Some.ensures
    c.in-Some-Some.is-1 c.hex_pair.ensures c.decipher-plain.ensures.key c.decipher-plain.ensures.plain c.if-left-eq0.true

pub loop-b-preserved-in-Some-Some : goal.loop-b-preserved-in-Some-Some
loop-b-preserved-in-Some-Some g c =
    hex_drop g.met.S.Source.lawful _ _ _ _ _ c.loop-b.invariant c.take.ensures.after
    _ c.map_err.ensures.cases c.map_err.ensures.variant c.in_ok-b.was c.take.ensures.answer c.in-Some-Some.ensures
    c.in-Some-Some.is-1 c.hex_pair.ensures c.decipher-plain.ensures.key (omega arith)

pub loop-b-preserved-in-Some-None : goal.loop-b-preserved-in-Some-None
loop-b-preserved-in-Some-None g c =
    hex_first g.met.S.Source.lawful _ _ _ _ _ c.loop-b.invariant c.take.ensures.after
    _ c.map_err.ensures.cases c.map_err.ensures.variant c.in_ok-b.was c.take.ensures.answer c.in-Some-None.ensures c.in-Some-None.is-1

pub loop-b-preserved : goal.loop-b-preserved
loop-b-preserved g c =
    hex_blank g.met.S.Source.lawful _ _ _ _ _ c.loop-b.invariant c.take.ensures.after
    _ c.map_err.ensures.cases c.map_err.ensures.variant c.in_ok-b.was c.take.ensures.answer
    c.in-None-default.is-0 c.digit.ensures c.if-is_blank.ensures

pub returns-in-None-default-2 : goal.returns-in-None-default-2
returns-in-None-default-2 g c =
    hex_stray g.met.S.Source.lawful _ _ _ _ _ c.loop-b.invariant c.take.ensures.after
    _ c.map_err.ensures.cases c.map_err.ensures.variant c.in_ok-b.was c.take.ensures.answer
    c.in-None-default.is-0 c.digit.ensures c.if-is_blank.ensures
