use Rattle.std.specs.Prelude.{◌≡◌, ℕ, ◌+◌, ◌<◌, ◌≤◌, List, length, set, Ok, Err, Result}
use Rattle.source.specs.declared.fault.Fault.TheVariants.{Limit}
use Rattle.scanner.specs.declared.failure.Failure.{Failure}
use Rattle.scanner.specs.declared.failure.Failure.TheVariants.{Fault}

-- one more byte behind the first n of an area, or a fault where the area has no place for it
abbrev pub Puts : List ℕ → ℕ → ℕ → Result ℕ Failure → List ℕ → Type 0
Puts old n b (Ok k) new = (n < length old) × (k ≡ n + 1) × (new ≡ set old n b)
Puts old n b (Err f) new = (length old ≤ n) × (f ≡ Fault Limit n) × (new ≡ old)
