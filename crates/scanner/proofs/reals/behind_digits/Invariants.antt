use Rattle.std.proofs.Common.{◌≡◌, length}
use Rattle.scanner.specs.Numbers.{behind_digits}
use Rattle.scanner.proofs.reals.behind_digits.Given as goal

abbrev pub invariant-loop-rest : goal.invariant-loop-rest
invariant-loop-rest l = behind_digits l.rest ≡ behind_digits l.s

abbrev pub decreases-loop-rest : goal.decreases-loop-rest
decreases-loop-rest l = length l.rest
