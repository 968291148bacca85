use Rattle.std.proofs.Common.{◌≡◌, ◌-◌, None, Some, lit<, sym, subst, ◌∙◌, ap, option_map, append-nil, arith}
use Rattle.std.specs.Result.{result_ok}
use Rattle.given.specs.Texts.{WhyNoPart, part_of, Adds}
use Rattle.given.proofs.Texts.{parsed, cut, never, often, uncounted, misread, passed_on}
use Rattle.given.proofs.Pairs.{repeated}
use Rattle.given.proofs.reading.read_part.Goals as goal

pub returns-in_err-times-clause-err : goal.returns-in_err-times-clause-err
returns-in_err-times-clause-err c =
    let s = cut 120 c.args.part.now c.split_once.result c.split_once.ensures.cases (lit< tt) in
    let e = parsed 32 c.in-Some.times.now c.parse.result c.parse.ensures.value.0 in
    uncounted c.from_residual.result c.args.part.now c.in-Some.digits.now c.in-Some.times.now _ c.from_residual.ensures.1 (cc)
    (sym e ∙ ap result_ok c.in_err-times.was) c.in_err-times.ensures.value.1

pub returns-then-times-eq0-clause-ok : goal.returns-then-times-eq0-clause-ok
returns-then-times-eq0-clause-ok c =
    let s = cut 120 c.args.part.now c.split_once.result c.split_once.ensures.cases (lit< tt) in
    let e = parsed 32 c.in-Some.times.now c.parse.result c.parse.ensures.value.0 in
    let none = never c.args.part.now c.in-Some.digits.now c.in-Some.times.now c.in_ok-times.times (cc) (sym e ∙ ap result_ok c.in_ok-times.was) c.if-times-eq0.true in
    subst (λ o. Adds o c.args.bytes.now.items c.args.bytes.now.items) (sym none) (ap Some (append-nil c.args.bytes.now.items))

pub returns-in_err-read_pairs-clause-err : goal.returns-in_err-read_pairs-clause-err
returns-in_err-read_pairs-clause-err c =
    let s = cut 120 c.args.part.now c.split_once.result c.split_once.ensures.cases (lit< tt) in
    let e = parsed 32 c.in-Some.times.now c.parse.result c.parse.ensures.value.0 in
    passed_on (λ e. (part_of c.args.part.now ≡ None) × WhyNoPart c.args.part.now e) c.from_residual-in_err-read_pairs.result _ c.from_residual-in_err-read_pairs.ensures.1 c.in_err-read_pairs.ensures.err
    (misread c.args.part.now c.in-Some.digits.now c.in-Some.times.now c.in_ok-times.times _ (cc) (sym e ∙ ap result_ok c.in_ok-times.was) c.if-times-eq0.false)

pub returns-clause-ok : goal.returns-clause-ok
returns-clause-ok c =
    let s = cut 120 c.args.part.now c.split_once.result c.split_once.ensures.cases (lit< tt) in
    let e = parsed 32 c.in-Some.times.now c.parse.result c.parse.ensures.value.0 in
    let all = often c.args.part.now c.in-Some.digits.now c.in-Some.times.now c.in_ok-times.times (s ∙ ap (option_map (λ x. (x.0.now, x.1.now))) c.in-Some.is) (sym e ∙ ap result_ok c.in_ok-times.was) c.if-times-eq0.false in
    subst (λ o. Adds o c.args.bytes.now.items c.repeat_behind.new.bytes.items) (sym all)
    (repeated c.args.bytes.now.items c.read_pairs-2.new.bytes.items c.repeat_behind.new.bytes.items _ c.len-start.result c.in_ok-times.times (c.in_ok-times.times - 1) c.in_ok-read_pairs.ensures.ok (c.len-start.ensures ∙ c.args.bytes.now.ok.0) c.in_ok-repeat_behind.ensures (omega arith))
