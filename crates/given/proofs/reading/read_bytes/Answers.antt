use Rattle.std.proofs.Common.{◌≡◌, drop, length, None, sym, subst}
use Rattle.std.specs.Str.Iter.{split_steps}
use Rattle.std.specs.Str.Pattern.{FindsChar}
use Rattle.std.proofs.lemmas.Iterator.{YieldsList}
use Rattle.std.proofs.lemmas.Iterator.Consumers.{YieldsList-turn, YieldsList-end}
use Rattle.std.proofs.lemmas.List.{length_push}
use Rattle.given.specs.Texts.{part_of, parts_of, bytes_of, WhyNoBytes, FirstBad}
use Rattle.given.proofs.Texts.{parts_in_order, added, read-none, read-more, read-bad, read-all, bad-more, bad-first, no_dash, passed_on}
use Rattle.given.proofs.reading.read_bytes.Goals as goal
use Rattle.given.proofs.reading.read_bytes.Goals.{After-into_iter-part-iterator}

-- the loop goes over the parts of the text
over_parts : (c : After-into_iter-part-iterator) → YieldsList (split_steps FindsChar (λ a b. b ≡ a)) (λ x. x.now) c.into_iter-part-iterator.result (parts_of c.args.text.now)
over_parts c =
    let split = c.split-part-items.ensures in
    parts_in_order c.args.text.now _ c.split-part-items.result c.into_iter-part-iterator.ensures.into_iter_gives split.text split.has_more split.pattern

pub returns-in_err-read_part-clause-err : goal.returns-in_err-read_part-clause-err
returns-in_err-read_part-clause-err c =
    let parts = over_parts (goal.at.returns-in_err-read_part-clause-err c).After-into_iter-part-iterator in
    let turn = YieldsList-turn parts c.loop-part.yielded _ c.loop-part.yielded_by _ _ c.in-Some.part c.in-Some.is c.next.ensures.steps in
    let inv = c.loop-part.invariant in
    passed_on (λ e. (bytes_of c.args.text.now ≡ None) × WhyNoBytes c.args.text.now e) c.from_residual.result _ c.from_residual.ensures.1 c.in_err-read_part.ensures.err
    (λ bad. (no_dash c.args.text.now None (sym c.if-eq.ensures) (read-bad _ _ _ _ inv.read turn bad.0), inv.bad _ (bad-first _ _ _ _ turn bad.0 bad.1)))

pub loop-part-init : goal.loop-part-init
loop-part-init c = record {
  read = read-none (parts_of c.args.text.now) _ c.new-bytes.ensures.items;
  bad = λ e bad. bad;
}

pub loop-part-preserved : goal.loop-part-preserved
loop-part-preserved c =
    let parts = over_parts (goal.at.loop-part-preserved c).After-into_iter-part-iterator in
    let turn = YieldsList-turn parts c.loop-part.yielded _ c.loop-part.yielded_by _ _ c.in-Some.part c.in-Some.is c.next.ensures.steps in
    let inv = c.loop-part.invariant in
    let all = parts_of c.args.text.now in
    let next = length_push c.loop-part.yielded c.in-Some.part in
    let add = added (part_of c.in-Some.part.now) c.loop-part.bytes.items c.read_part.new.bytes.items c.in_ok-read_part.ensures.ok in
    record {
      read = read-more _ _ _ _ add.0 inv.read turn add.1 _ _ next add.2;
      bad = λ e bad. inv.bad e (bad-more all (length c.loop-part.yielded) c.in-Some.part.now add.0 e turn add.1 (subst (λ n. FirstBad (drop n all) e) next bad));
    }

pub returns-clause-ok : goal.returns-clause-ok
returns-clause-ok c =
    let parts = over_parts (goal.at.returns-clause-ok c).After-into_iter-part-iterator in
    let end = YieldsList-end parts c.loop-part.yielded _ c.loop-part.yielded_by _ _ c.in-None.is c.next.ensures.steps in
    no_dash c.args.text.now _ (sym c.if-eq.ensures) (read-all _ _ _ c.loop-part.invariant.read end.1)
