use Rattle.std.proofs.Common.{refl}
use Rattle.t1dump.proofs.ListUses.{listing_fewer, listing_more, listing_done}
use Rattle.t1dump.proofs.lister.Lister.list_all.Goals as goal

pub loop-out-smaller : goal.loop-out-smaller
loop-out-smaller g c =
    listing_fewer g.S.Source.model g.met.S.Source.lawful 4096 refl (g.S.Source.held c.args.self.source) _ _ _ _ _ c.in_ok-list_one.field-0 c.loop-out.invariant
    c.list_one.ensures.left c.in_ok-list_one.ensures.lists c.if-branch.true

pub loop-out-preserved : goal.loop-out-preserved
loop-out-preserved g c =
    listing_more g.S.Source.model g.met.S.Source.lawful 4096 refl (g.S.Source.held c.args.self.source) _ _ _ _ _ c.in_ok-list_one.field-0 c.loop-out.invariant
    c.list_one.ensures.left c.in_ok-list_one.ensures.lists c.if-branch.true

pub returns : goal.returns
returns g c =
    listing_done g.S.Source.model g.met.S.Source.lawful 4096 refl (g.S.Source.held c.args.self.source) _ _ _ _ _ c.in_ok-list_one.field-0 c.loop-out.invariant
    c.list_one.ensures.left c.in_ok-list_one.ensures.lists c.if-branch.false
