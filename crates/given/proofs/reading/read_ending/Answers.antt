use Rattle.std.proofs.Common.{arith}
use Rattle.std.proofs.lemmas.Grind.{common_steps}
use Rattle.given.proofs.Texts.{parsed}
use Rattle.given.proofs.reading.read_ending.Goals as goal

pub returns-in_err-depth-clause-is : goal.returns-in_err-depth-clause-is
returns-in_err-depth-clause-is c =
    let depth = parsed 8 c.in_ok-number.depth.now c.parse.result c.parse.ensures.value.0 in
    grind (arith, common_steps)

pub returns-clause-is : goal.returns-clause-is
returns-clause-is c =
    let depth = parsed 8 c.in_ok-number.depth.now c.parse.result c.parse.ensures.value.0 in
    grind (arith, common_steps)
