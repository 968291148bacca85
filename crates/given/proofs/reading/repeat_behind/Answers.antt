use Rattle.std.proofs.Common.{◌≡◌, ◌-◌, ◌*◌, ◌<◌, ap, ◌∙◌, drop, length, arith}
use Rattle.std.specs.List.{repeat}
use Rattle.given.proofs.Pairs.{product, within, in_bounds, again_more, again_all}
use Rattle.given.proofs.reading.repeat_behind.Goals as goal
use Rattle.given.proofs.reading.repeat_behind.Goals.{In-loop-i}

-- a byte of the copies is still to come
to_come : (c : In-loop-i) → (c.args.start < length c.args.bytes.now.items) × (c.loop-i.i < length (repeat c.args.times (drop c.args.start c.args.bytes.now.items)))
to_come c =
    let old = c.args.bytes.now.ok.0 in
    let more = product c.checked_mul.result _ _ c.in_ok-more.more c.checked_mul.ensures c.in_ok-more.ensures.ok_part in
    let len : c.len.result ≡ length c.args.bytes.now.items = c.len.ensures ∙ old in
    let all : c.in_ok-more.more ≡ (length c.args.bytes.now.items - c.args.start) * c.args.times = more ∙ ap (λ n. (n - c.args.start) * c.args.times) len in
    within c.args.bytes.now.items c.args.start c.args.times c.loop-i.i (omega arith) (omega arith)

pub overflow_add-start : goal.overflow_add-start
overflow_add-start c =
    let come = to_come (goal.at.overflow_add-start c).In-loop-i in
    let place = in_bounds _ _ _ _ _ come.0 come.1 c.loop-i.invariant in
    omega (arith, c.loop-i.bytes.ok, c.loop-i.bytes.small)

pub index-byte-requires : goal.index-byte-requires
index-byte-requires c =
    let come = to_come (goal.at.index-byte-requires c).In-loop-i in
    let place = in_bounds _ _ _ _ _ come.0 come.1 c.loop-i.invariant in
    omega (arith, c.loop-i.bytes.ok)

pub loop-i-preserved : goal.loop-i-preserved
loop-i-preserved c =
    let come = to_come (goal.at.loop-i-preserved c).In-loop-i in
    again_more _ _ _ _ _ _ c.index-byte.result.now come.0 come.1 c.loop-i.invariant c.index-byte.ensures c.in_ok-push.ensures.items

pub returns : goal.returns
returns c =
    let more = product c.checked_mul.result _ _ c.in_ok-more.more c.checked_mul.ensures c.in_ok-more.ensures.ok_part in
    let len : c.len.result ≡ length c.args.bytes.now.items = c.len.ensures ∙ c.args.bytes.now.ok.0 in
    let all : c.in_ok-more.more ≡ (length c.args.bytes.now.items - c.args.start) * c.args.times = more ∙ ap (λ n. (n - c.args.start) * c.args.times) len in
    again_all _ _ _ _ c.loop-i.i c.loop-i.invariant (omega arith)
