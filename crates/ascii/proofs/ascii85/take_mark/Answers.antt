use Rattle.std.proofs.Common.{cond, eqb, Ok, Err, sym, ap}
use Rattle.source.specs.declared.ending.Damage.TheVariants as damage
use Rattle.source.specs.declared.ending.Ending.TheVariants.{Damaged}
use Rattle.std.proofs.lemmas.Bool.{ne_eqb}
use Rattle.source.specs.Bytes.{white}
use Rattle.ascii.proofs.Ascii85Uses.{mark_white, mark_stop}
use Rattle.ascii.proofs.ascii85.take_mark.Goals as goal

pub returns-in-Ok-eq62 : goal.returns-in-Ok-eq62
returns-in-Ok-eq62 g c =
    mark_stop g.met.S.Source.lawful c.loop-b.invariant c.take.ensures.after c.in-Ok-eq62.ensures.answer (Ok tt)
    (ap white c.in-Ok-eq62.field-0-test) (sym (ap (λ b. cond (eqb b 62) (Ok tt) (Err (Damaged damage.Stray 0))) c.in-Ok-eq62.field-0-test))

pub loop-b-preserved : goal.loop-b-preserved
loop-b-preserved g c =
    mark_white g.met.S.Source.lawful c.loop-b.invariant c.take.ensures.after c.in-Ok.ensures.answer (sym c.if-is_white.ensures)

pub returns-in-Ok-2 : goal.returns-in-Ok-2
returns-in-Ok-2 g c =
    mark_stop g.met.S.Source.lawful c.loop-b.invariant c.take.ensures.after c.in-Ok.ensures.answer (Err (Damaged damage.Stray 0))
    (sym c.if-is_white.ensures) (sym (ap (λ t. cond t (Ok tt) (Err (Damaged damage.Stray 0))) (ne_eqb c.in-Ok.b 62 c.in-Ok.b-test.1)))
