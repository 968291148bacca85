use Rattle.eexec.proofs.EexecUses.{lead_on, lead_stop}
use Rattle.eexec.proofs.head.take_behind_blanks.Goals as goal

pub returns-then-not-is_blank : goal.returns-then-not-is_blank
returns-then-not-is_blank g c =
    lead_stop g.met.S.Source.lawful c.loop-b.invariant c.take.ensures.after c.in_ok-b.ensures.answer c.if-not-is_blank.ensures

pub loop-b-preserved : goal.loop-b-preserved
loop-b-preserved g c =
    lead_on g.met.S.Source.lawful c.loop-b.invariant c.take.ensures.after c.in_ok-b.ensures.answer c.if-not-is_blank.ensures
