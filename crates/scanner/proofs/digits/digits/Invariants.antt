use Rattle.scanner.proofs.NumberUses.{Valued}
use Rattle.scanner.proofs.digits.digits.Given as goal

abbrev pub invariant-loop-b : goal.invariant-loop-b
invariant-loop-b l = Valued l.base l.s l.b-index l.v
