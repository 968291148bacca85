use Rattle.std.proofs.lemmas.Result.{err_from_is_err_and}
use Rattle.listing.proofs.JoinedUses.{taken_more, full_more}
use Rattle.listing.proofs.shape.Shape.put_each.Goals as goal

pub returns-in_err-put_byte : goal.returns-in_err-put_byte
returns-in_err-put_byte g c =
    let p = err_from_is_err_and c.from_residual.result c.from_residual.ensures.1 in
    rw (p.1, p.2) (full_more g.Self.Shape.shows c.args.content.now c.loop-b.b-index c.loop-b-test.true c.loop-b.invariant c.in_err-put_byte.ensures)

pub loop-b-preserved : goal.loop-b-preserved
loop-b-preserved g c = taken_more g.Self.Shape.shows c.args.content.now c.loop-b.b-index c.loop-b-test.true c.loop-b.invariant c.in_ok-put_byte.ensures
