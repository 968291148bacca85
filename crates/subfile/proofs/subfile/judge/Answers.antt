use Rattle.std.proofs.Common.{arith}
use Rattle.subfile.proofs.JudgeUses.{judge_longer, judge_starts}
use Rattle.subfile.proofs.subfile.judge.Goals as goal

pub returns-then-held-mark : goal.returns-then-held-mark
returns-then-held-mark c = judge_starts c.args.mark.now c.args.held.now c.loop-i.i c.loop-i.invariant (omega arith) (omega arith)

pub returns-in_default : goal.returns-in_default
returns-in_default c = judge_longer c.args.mark.now c.args.held.now c.loop-i.i c.loop-i.invariant (omega (arith, c.in_default.ensures.lookup)) c.loop-i-test.true
