use Rattle.std.proofs.Common.{◌<◌, length, arith}
use Rattle.speed.proofs.FillUses.{filling_more}
use Rattle.speed.proofs.filling.fill.Goals as goal

pub loop-n-preserved : goal.loop-n-preserved
loop-n-preserved g c =
    let lt : c.loop-n.n < length c.loop-n.area = omega (arith, c.loop-n-test.true, c.loop-n.auto.area) in
    filling_more g.S.Source.model g.met.S.Source.lawful _ _ _ _ _ c.loop-n.invariant _ c.in-Ok.b lt c.in-Ok.ensures.answer c.take.ensures.after
