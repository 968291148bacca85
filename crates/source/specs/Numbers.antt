use Rattle.std.specs.Prelude.{ℕ, cond, ◌==◌, List, ◌∷◌, ◌++◌, decimal, Result, Ok, Err}
use Rattle.source.specs.declared.ending.Damage.{Damage as Harm}
use Rattle.source.specs.declared.ending.Damage.TheVariants.{Stray, CutShort, Overflow, LoneDigit}
use Rattle.source.specs.declared.ending.NoDamage.{NoDamage}
use Rattle.source.specs.declared.ending.Ending.{Ending}
use Rattle.source.specs.declared.ending.Ending.TheVariants.{Clean, Damaged}
use Rattle.source.specs.declared.fault.Fault.{Fault}
use Rattle.source.specs.declared.fault.Fault.TheVariants.{Damage, Limit, Unended, RadixRange, StrayInHex, StrayDelimiter}

abbrev pub damage_number : Harm → ℕ
damage_number Stray = 21
damage_number CutShort = 22
damage_number Overflow = 23
damage_number LoneDigit = 24

-- the damage that has a number, if one has
abbrev pub damage_numbered : ℕ → Result Harm NoDamage
damage_numbered n =
    cond (n == 21) (Ok Stray) (cond (n == 22) (Ok CutShort) (cond (n == 23) (Ok Overflow) (cond (n == 24) (Ok LoneDigit) (Err record {}))))

-- an ending as two numbers: 0 and 0 for a clean one
abbrev pub cause_of : Ending → ℕ
cause_of Clean = 0
cause_of (Damaged d n) = damage_number d

abbrev pub depth_of : Ending → ℕ
depth_of Clean = 0
depth_of (Damaged d n) = n

-- a fault as two numbers: its depth is 0 unless it is a damage of a source
abbrev pub fault_number : Fault → ℕ
fault_number (Damage d n) = damage_number d
fault_number Limit = 31
fault_number Unended = 32
fault_number RadixRange = 33
fault_number StrayInHex = 35
fault_number StrayDelimiter = 36

abbrev pub fault_depth : Fault → ℕ
fault_depth (Damage d n) = n
fault_depth Limit = 0
fault_depth Unended = 0
fault_depth RadixRange = 0
fault_depth StrayInHex = 0
fault_depth StrayDelimiter = 0

-- what an ending is where more bytes are needed: a damage passes up as it is
abbrev pub unended : Ending → Fault
unended Clean = Unended
unended (Damaged d n) = Damage d n

-- two numbers as they are printed: in decimal, with a blank between them
abbrev pub two_numbers : ℕ → ℕ → List ℕ
two_numbers a b = decimal a ++ 32 ∷ decimal b
