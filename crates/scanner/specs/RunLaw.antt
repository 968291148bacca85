use Rattle.std.specs.Prelude.{◌≡◌, ℕ, ◌<◌, ◌≤◌, Bool, false, not, List, [], ◌∷◌, length, take, drop, Ok, Err}
use Rattle.source.specs.declared.fault.Fault.TheVariants.{Limit}
use Rattle.source.specs.Bytes.{white}
use Rattle.scanner.specs.declared.class.Class.{Class}
use Rattle.scanner.specs.declared.class.Class.TheVariants.{White, Special, Regular}
use Rattle.scanner.specs.Classes.{class_of}
use Rattle.scanner.specs.Failures.{broken}
use Rattle.scanner.specs.Numbers.{behind_one}
use Rattle.scanner.specs.Runs.{run_at}

abbrev pub front_by : Class → ℕ → List ℕ → List ℕ
front_by Regular b on = b ∷ on
front_by White b on = []
front_by Special b on = []

-- the regular bytes at the start, as many as there are
abbrev pub front_of : List ℕ → List ℕ
front_of [] = []
front_of (b ∷ bs) = front_by (class_of b) b (front_of bs)

-- what stands behind them
abbrev pub behind_front : List ℕ → List ℕ
behind_front rest = drop (length (front_of rest)) rest

abbrev pub starts_white : List ℕ → Bool
starts_white [] = false
starts_white (b ∷ bs) = white b

-- a run is all the regular bytes at the start. Up to 127 are read, with one white byte behind them, which is taken; any
-- other byte there, or the end, is looked at and stays. Of more, 127 are read and the 128th is taken, and that is a fault
pub record RunLaw : Type 0 where
  pub read :
      (rest : List ℕ) → length (front_of rest) ≤ 127
      → run_at [] rest ≡ record {
        answer = Ok (length (front_of rest));
        content = front_of rest;
        left = behind_one white (behind_front rest);
        peeked = not (starts_white (behind_front rest));
      }
  pub too_long :
      (rest : List ℕ) → 127 < length (front_of rest)
      → run_at [] rest ≡ record { answer = Err (broken Limit (take 127 rest)); content = take 127 rest; left = drop 128 rest; peeked = false }
