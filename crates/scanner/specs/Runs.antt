use Rattle.std.specs.Prelude.{ℕ, true, false, cond, List, [], ◌∷◌, ◌++◌, length, Ok, Err, Result, ◌==◌}
use Rattle.source.specs.declared.ending.Ending.{Ending}
use Rattle.source.specs.declared.fault.Fault.TheVariants.{Limit}
use Rattle.scanner.specs.declared.failure.Failure.{Failure}
use Rattle.scanner.specs.declared.class.Class.{Class}
use Rattle.scanner.specs.declared.class.Class.TheVariants.{White, Special, Regular}
use Rattle.scanner.specs.Classes.{class_of}
use Rattle.scanner.specs.Failures.{broken}
use Rattle.scanner.specs.Scan.{Scan}

-- what a byte of the class does behind the bytes `done` of a run: a special byte ends it and stays, a white byte ends
-- it and is taken, a regular byte belongs to it unless it would be the 128th
abbrev pub run_by : Class → List ℕ → ℕ → List ℕ → Scan (Result ℕ Failure) → Scan (Result ℕ Failure)
run_by Special done b bs on = record { answer = Ok (length done); content = done; left = b ∷ bs; peeked = true }
run_by White done b bs on = record { answer = Ok (length done); content = done; left = bs; peeked = false }
run_by Regular done b bs on =
    cond (length done == 127) (record { answer = Err (broken Limit done); content = done; left = bs; peeked = false }) on

-- a run, of which the bytes `done` were read
abbrev pub run_at : List ℕ → List ℕ → Scan (Result ℕ Failure)
run_at done [] = record { answer = Ok (length done); content = done; left = []; peeked = true }
run_at done (b ∷ bs) = run_by (class_of b) done b bs (run_at (done ++ b ∷ []) bs)

abbrev pub run_of : ℕ → List ℕ → Ending → Scan (Result ℕ Failure)
run_of room rest e = run_at [] rest
