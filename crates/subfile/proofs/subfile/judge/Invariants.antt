use Rattle.subfile.proofs.JudgeUses.{Agree}
use Rattle.subfile.proofs.subfile.judge.Given as goal

abbrev pub invariant-loop-i : goal.invariant-loop-i
invariant-loop-i l = Agree l.mark l.held l.i
