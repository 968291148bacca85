use Rattle.ascii.specs.Ready4.{listed}
use Rattle.ascii.proofs.MadeUses.{own_end}
use Rattle.ascii.proofs.Ascii85Uses.{value_fits, group_white, group_digit, group_whole, group_zero, group_stray, group_close}
use Rattle.ascii.proofs.ascii85.next_group.Goals as goal

pub loop-b-preserved-in-White : goal.loop-b-preserved-in-White
loop-b-preserved-in-White g c =
    group_white g.met.S.Source.lawful c.loop-b.invariant c.take.ensures.after c.in-Ok.ensures.answer c.in-White.ensures

pub returns-in-Digit : goal.returns-in-Digit
returns-in-Digit g c =
    group_whole g.met.S.Source.lawful c.loop-b.invariant c.take.ensures.after c.in-Ok.ensures.answer c.in-Digit.ensures c.if-group-eq4.true c.whole.ensures

pub push-requires-clause-low : goal.push-requires-clause-low
push-requires-clause-low g c =
    value_fits c.loop-b.invariant c.if-group-eq4.false

pub loop-b-preserved : goal.loop-b-preserved
loop-b-preserved g c =
    group_digit g.met.S.Source.lawful c.loop-b.invariant c.take.ensures.after c.in-Ok.ensures.answer c.in-Digit.ensures c.if-group-eq4.false c.push.ensures

pub returns-in-Zero : goal.returns-in-Zero
returns-in-Zero g c =
    group_zero g.met.S.Source.lawful c.loop-b.invariant c.take.ensures.after c.in-Ok.ensures.answer c.in-Zero.ensures (c.zeros.ensures c.loop-b.invariant.digits c.loop-b.invariant.pending.many)

pub returns-in-Tilde : goal.returns-in-Tilde
returns-in-Tilde g c =
    group_close g.met.S.Source.lawful c.loop-b.invariant c.take.ensures.after c.in-Ok.ensures.answer c.in-Tilde.ensures (c.close.ensures c.loop-b.invariant.digits c.loop-b.invariant.pending)

pub returns-in-Stray : goal.returns-in-Stray
returns-in-Stray g c =
    group_stray g.met.S.Source.lawful c.loop-b.invariant c.take.ensures.after c.in-Ok.ensures.answer c.in-Stray.ensures
    (own_end listed c.end-in-Stray.result c.end-in-Stray.ensures.ready c.end-in-Stray.ensures.ended)
