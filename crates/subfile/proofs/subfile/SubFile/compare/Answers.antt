use Rattle.subfile.proofs.SubFileUses.{mark_short, hold_fits, compare_on}
use Rattle.subfile.proofs.subfile.SubFile.compare.Goals as goal

pub hold-requires : goal.hold-requires
hold-requires g c =
    hold_fits c.loop-self.invariant c.as_slice.ensures c.compared.ensures c.in-Starts.ensures (mark_short c.loop-self.self.mark)

pub loop-self-preserved : goal.loop-self-preserved
loop-self-preserved g c =
    compare_on g.met.S.Source.lawful c.loop-self.invariant c.as_slice.ensures c.compared.ensures
    c.in-Starts.ensures c.in-Ok.ensures.answer c.take.ensures.after c.hold.ensures.compared c.hold.ensures.filled
