use Rattle.eexec.proofs.EexecUses.{head_one, head_two, head_three, head_four}
use Rattle.eexec.proofs.head.take_head.Goals as goal

pub returns-in_err-take : goal.returns-in_err-take
returns-in_err-take g c =
    head_one g.met.S.Source.lawful c.in_ok-take_behind_blanks.ensures c.from_residual-in_err-take.result
    c.take.ensures.after c.in_err-take.ensures.answer c.from_residual-in_err-take.ensures.1

pub returns-in_err-take-2 : goal.returns-in_err-take-2
returns-in_err-take-2 g c =
    head_two g.met.S.Source.lawful c.in_ok-take_behind_blanks.ensures c.take.ensures.after c.in_ok-take.ensures.answer
    c.from_residual-in_err-take-2.result c.take-2.ensures.after c.in_err-take-2.ensures.answer c.from_residual-in_err-take-2.ensures.1

pub returns-in_err-take-3 : goal.returns-in_err-take-3
returns-in_err-take-3 g c =
    head_three g.met.S.Source.lawful c.in_ok-take_behind_blanks.ensures c.take.ensures.after c.in_ok-take.ensures.answer
    c.take-2.ensures.after c.in_ok-take-2.ensures.answer
    c.from_residual-in_err-take-3.result c.take-3.ensures.after c.in_err-take-3.ensures.answer c.from_residual-in_err-take-3.ensures.1

pub returns : goal.returns
returns g c =
    head_four g.met.S.Source.lawful c.in_ok-take_behind_blanks.ensures c.take.ensures.after c.in_ok-take.ensures.answer
    c.take-2.ensures.after c.in_ok-take-2.ensures.answer c.take-3.ensures.after c.in_ok-take-3.ensures.answer
