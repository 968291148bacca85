use Rattle.std.specs.Prelude.{ℕ, Bool, true, false, List, [], ◌∷◌, Ok, Err, Result, ◌==◌}
use Rattle.source.specs.declared.ending.Ending.{Ending}
use Rattle.source.specs.declared.fault.Fault.{Fault}
use Rattle.source.specs.Numbers.{unended}
use Rattle.source.specs.Reads.{Read}

-- a byte that is needed: an end in its place is a fault
abbrev pub byte_of : List ℕ → Ending → Read (Result ℕ Fault)
byte_of [] e = record { answer = Err (unended e); left = []; peeked = true }
byte_of (b ∷ bs) e = record { answer = Ok b; left = bs; peeked = false }

abbrev pub take_if_by : Bool → ℕ → List ℕ → Read (Result Bool Ending)
take_if_by true b bs = record { answer = Ok true; left = bs; peeked = false }
take_if_by false b bs = record { answer = Ok false; left = b ∷ bs; peeked = true }

-- the next byte is looked at, and taken if it is `wanted`
abbrev pub take_if_of : ℕ → List ℕ → Ending → Read (Result Bool Ending)
take_if_of wanted [] e = record { answer = Err e; left = []; peeked = true }
take_if_of wanted (b ∷ bs) e = take_if_by (b == wanted) b bs

-- the same with another answer
abbrev pub with_answer : {A B : Type 0} → B → Read A → Read B
with_answer b r = record { answer = b; left = r.left; peeked = r.peeked }
