use Rattle.std.proofs.Common.{◌∙◌}
use Rattle.std.specs.Slice.Iter.{chunks_rest}
use Rattle.given.proofs.Pairs.{chunk_good, told_more, told_end, told_bad}
use Rattle.given.proofs.reading.read_pairs.Goals as goal

pub returns-in_err-byte-clause-err : goal.returns-in_err-byte-clause-err
returns-in_err-byte-clause-err c =
    let inv = c.loop-pair.invariant in
    let steps = c.in-Some.ensures.steps in
    told_bad c.from_residual.result _ _ _ (chunks_rest c.loop-pair.pair-iterator) c.in-Some.pair.now (chunks_rest c.next.new.self) _ c.from_hex.result _
    c.from_residual.ensures.1 inv.tells inv.by_twos steps.1 c.from_hex.ensures c.in_err-byte.was

pub loop-pair-preserved : goal.loop-pair-preserved
loop-pair-preserved c =
    let inv = c.loop-pair.invariant in
    let steps = c.in-Some.ensures.steps in
    let turn = chunk_good (chunks_rest c.loop-pair.pair-iterator) c.in-Some.pair.now (chunks_rest c.next.new.self) _ c.from_hex.result c.in_ok-byte.byte inv.by_twos steps.1 c.from_hex.ensures c.in_ok-byte.was in
    record {
      by_twos = steps.0 ∙ inv.by_twos;
      tells = told_more _ c.in_ok-byte.byte (chunks_rest c.loop-pair.pair-iterator) (chunks_rest c.next.new.self) _ _ inv.tells turn c.in_ok-extend_from_slice.ensures.items;
    }

pub returns-clause-ok : goal.returns-clause-ok
returns-clause-ok c =
    told_end _ _ (chunks_rest c.loop-pair.pair-iterator) _ c.in-None.ensures.steps.1.0 c.loop-pair.invariant.tells
