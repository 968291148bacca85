use Rattle.std.proofs.Common.{refl, ap}
use Rattle.std.specs.Option.{option_to_list}
use Rattle.ascii.specs.Made.{own_made}
use Rattle.ascii.proofs.AsciiHexUses.{pair_wait, pair_stop, pair_end}
use Rattle.ascii.proofs.asciihex.next_pair.Goals as goal

pub loop-b-preserved : goal.loop-b-preserved
loop-b-preserved g c =
    pair_wait g.met.S.Source.lawful c.loop-b.invariant c.take.ensures.after c.in-Ok.ensures.answer c.in-Wait.ensures

pub returns-in-Put : goal.returns-in-Put
returns-in-Put g c =
    pair_stop g.met.S.Source.lawful c.loop-b.invariant c.take.ensures.after c.in-Ok.ensures.answer c.in-Put.ensures
    (ap (λ m. own_made option_to_list tt m) c.more.ensures) refl

pub returns-in-Last : goal.returns-in-Last
returns-in-Last g c =
    pair_stop g.met.S.Source.lawful c.loop-b.invariant c.take.ensures.after c.in-Ok.ensures.answer c.in-Last.ensures
    refl refl

pub returns-in-Done : goal.returns-in-Done
returns-in-Done g c =
    pair_end g.met.S.Source.lawful c.loop-b.invariant c.take.ensures.after c.in-Ok.ensures.answer c.in-Done.ensures
    c.end-in-Done.ensures.ready c.end-in-Done.ensures.ended refl

pub returns-in-Stray : goal.returns-in-Stray
returns-in-Stray g c =
    pair_end g.met.S.Source.lawful c.loop-b.invariant c.take.ensures.after c.in-Ok.ensures.answer c.in-Stray.ensures
    c.end-in-Stray.ensures.ready c.end-in-Stray.ensures.ended refl
