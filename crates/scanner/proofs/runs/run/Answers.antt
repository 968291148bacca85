use Rattle.std.proofs.Common.{◌≡◌, ◌+◌, ◌<◌, ◌≤◌, ◌++◌, length, take, drop, set, Ok, Err, sym, ap, ◌∙◌, arith}
use Rattle.std.proofs.lemmas.List.{take_more_set, length-take-le, take-append-drop}
use Rattle.source.proofs.Walk.{walk_took, look_take}
use Rattle.scanner.specs.declared.class.Class.TheVariants.{White}
use Rattle.source.specs.declared.fault.Fault.TheVariants.{Limit}
use Rattle.scanner.specs.declared.failure.Failure.TheVariants.{Fault}
use Rattle.scanner.specs.Runs.{run_at}
use Rattle.scanner.proofs.Area.{written_more, written_count, set_front}
use Rattle.scanner.proofs.Mapped.{given_back}
use Rattle.scanner.proofs.RunUses.{run_class, run_full, run_more, run_stopped}
use Rattle.scanner.proofs.runs.run.Goals as goal

pub loop-b-preserved : goal.loop-b-preserved
loop-b-preserved g c =
    let m = g.S.Source.model in
    let l = g.met.S.Source.lawful in
    let x = g.S.Source.held c.loop-b.source in
    let x₂ = g.S.Source.held c.take-in-Regular.new.self in
    let n = c.loop-b.n in
    let area = c.loop-b.area in
    let b = c.in-Ok.b in
    let long : 127 ≤ length area = omega (arith, c.loop-b.auto.area, c.requires) in
    let w : n < 127 = omega (arith, c.in_ok-n-in-Regular.ensures.0, length-take-le 127 area long) in
    let k : n < length area = omega (arith, long, w) in
    let e : c.put.new.area ++ drop 127 area ≡ set area n b = ap (λ t. t ++ drop 127 area) c.in_ok-n-in-Regular.ensures.2 ∙ set_front 127 area n b w in
    rw (e, c.in_ok-n-in-Regular.ensures.1) (
      walk_took m l _ x _ _ x₂ b (run_at (take (n + 1) (set area n b))) c.loop-b.invariant.0 c.in-Ok.ensures.answer
          (look_take m l x _ x₂ c.look.ensures.after c.take-in-Regular.ensures.after)
          (sym (run_more (take n area) b (m.rest x₂) c.in-Regular.ensures (λ e. omega (arith, w, written_count _ _ n c.loop-b.invariant.1, e)))
          ∙ ap (λ d. run_at d (m.rest x₂)) (sym (take_more_set area n b k))),
      written_more _ area n b c.loop-b.invariant.1 k,
      omega (arith, w),
    )

pub slice_bounds-put-end-in-Regular : goal.slice_bounds-put-end-in-Regular
slice_bounds-put-end-in-Regular g c = sym (length-take-le 127 c.loop-b.area (omega (arith, c.loop-b.auto.area, c.requires)))

pub returns-in_err-n-in-Regular : goal.returns-in_err-n-in-Regular
returns-in_err-n-in-Regular g c =
    let area = c.loop-b.area in
    let full : c.loop-b.n ≡ 127 = omega (arith, c.in_err-n-in-Regular.ensures.0, length-take-le 127 area (omega (arith, c.loop-b.auto.area, c.requires)), c.loop-b.invariant.2) in
    let e : c.put.new.area ++ drop 127 area ≡ area = ap (λ t. t ++ drop 127 area) c.in_err-n-in-Regular.ensures.2 ∙ take-append-drop 127 area in
    rw (given_back _ _ c.from_residual.ensures.1, c.in_err-n-in-Regular.ensures.1, e)
    (run_stopped g.S.Source.model g.met.S.Source.lawful _ _ _ _ _ _ c.loop-b.n c.in-Ok.b (λ n. Err (Fault Limit n)) c.loop-b.invariant.0 c.loop-b.invariant.1 c.in-Ok.ensures.answer
    c.look.ensures.after c.take-in-Regular.ensures.after
    (run_full _ c.in-Ok.b _ c.in-Regular.ensures (written_count _ _ _ c.loop-b.invariant.1 ∙ full)))

pub returns-in-White : goal.returns-in-White
returns-in-White g c =
    run_stopped g.S.Source.model g.met.S.Source.lawful _ _ _ _ _ _ c.loop-b.n c.in-Ok.b Ok c.loop-b.invariant.0 c.loop-b.invariant.1 c.in-Ok.ensures.answer c.look.ensures.after
    c.take.ensures.after (run_class White _ c.in-Ok.b _ c.in-White.ensures)
