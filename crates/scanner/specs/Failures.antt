use Rattle.std.specs.Prelude.{ℕ, List, length}
use Rattle.source.specs.declared.fault.Fault.{Fault as Flaw}
use Rattle.source.specs.Numbers.{fault_number}
use Rattle.scanner.specs.declared.failure.Failure.{Failure}
use Rattle.scanner.specs.declared.failure.Failure.TheVariants.{Area, Fault}

abbrev pub failure_number : Failure → ℕ
failure_number Area = 6
failure_number (Fault f n) = fault_number f

-- a fault that leaves the content so far, with its count
abbrev pub broken : Flaw → List ℕ → Failure
broken f content = Fault f (length content)
