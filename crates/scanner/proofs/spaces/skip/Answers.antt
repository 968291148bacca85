use Rattle.source.proofs.Walk.{walk_took, look_take}
use Rattle.scanner.specs.Spaces.{skipped}
use Rattle.scanner.proofs.SpaceUses.{skip_on}
use Rattle.scanner.proofs.spaces.skip.Goals as goal

pub loop-b-preserved : goal.loop-b-preserved
loop-b-preserved g c =
    let m = g.S.Source.model in
    let l = g.met.S.Source.lawful in
    let x = g.S.Source.held c.loop-b.source in
    let x₂ = g.S.Source.held c.take.new.self in
    walk_took m l _ x _ _ x₂ c.in-Ok.b (skipped c.in-Some.open) c.loop-b.invariant c.in-Ok.ensures.answer
    (look_take m l x _ x₂ c.look.ensures.after c.take.ensures.after)
    (skip_on c.loop-b.comment c.in-Some.open c.in-Ok.b (m.rest x₂) c.in-Some.ensures)
