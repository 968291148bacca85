use Rattle.std.specs.Prelude.{◌≡◌, ℕ, ◌+◌, ◌-◌, ◌*◌, ◌<◌, ◌≤◌, true, false, cond, List, [], ◌∷◌, ◌++◌, length, take, Some, None, Option, Result, Ok, Err, ◌==◌, nat_le, nat_lt}
use Rattle.source.specs.declared.ending.Damage.TheVariants as damage
use Rattle.source.specs.declared.ending.Ending.{Ending}
use Rattle.source.specs.declared.ending.Ending.TheVariants.{Clean, Damaged}
use Rattle.source.specs.Bytes.{white}
use Rattle.source.specs.Reads.{Read}
use Rattle.ascii.specs.declared.ascii85.Byte85.{Byte85}
use Rattle.ascii.specs.declared.ascii85.Byte85.TheVariants.{Digit, White, Zero, Tilde, Stray}
use Rattle.ascii.specs.declared.ascii85.Ascii85.{Ascii85}
use Rattle.ascii.specs.declared.ascii85.Group.{Group}
use Rattle.decoding.specs.Ends.{above}
use Rattle.ascii.specs.Ready4.{bytes4, listed}
use Rattle.decoding.specs.Step.{Holds, Own, StepOf, stops}

-- ASCII85Decode keeps nothing from step to step
abbrev pub A85State : Type 0
A85State = Unit {0}

abbrev pub a85_holds : Ascii85 → Holds A85State
a85_holds f = record { ready = listed f.ready; compared = []; kind = tt }

-- what a byte is in base-85 data: a digit from ! to u, a white byte, z, ~, or a stray byte
abbrev pub byte_85_of : ℕ → Byte85
byte_85_of b =
    cond (nat_le b 32) (cond (white b) White Stray)
    (cond (nat_le b 117) (Digit (b - 33))
    (cond (b == 122) Zero
    (cond (b == 126) Tilde Stray)))

-- the number of digits in base 85, the highest first, behind others that are worth v
abbrev pub value_on : ℕ → List ℕ → ℕ
value_on v [] = v
value_on v (d ∷ ds) = value_on (v * 85 + d) ds

abbrev pub value85 : List ℕ → ℕ
value85 ds = value_on 0 ds

-- each is a digit
abbrev pub Below85 : List ℕ → Type 0
Below85 [] = Unit {0}
Below85 (d ∷ ds) = (d < 85) × Below85 ds

-- what is held once a step has made some bytes, or ended, or both
abbrev pub holding : List ℕ → Option Ending → Own A85State
holding ready o = record { ready = ready; compared = []; kind = tt; ended = o }

-- the first n bytes of a group with the number v, which is 4,294,967,295 at most
abbrev pub a85_group : ℕ → ℕ → Option Ending → Own A85State
a85_group n v o = cond (nat_le v 4294967295) (holding (take n (bytes4 v)) o) (holding [] (Some (Damaged damage.Overflow 0)))

-- z stands for four zero bytes, where no digit is pending
abbrev pub a85_zeros : List ℕ → Own A85State
a85_zeros [] = holding (0 ∷ 0 ∷ 0 ∷ 0 ∷ []) None
a85_zeros (d ∷ ds) = holding [] (Some (Damaged damage.Stray 0))

-- the last group, of four digits at the most: n digits are filled up with digits 84 to five and stand for n - 1 bytes; one
-- alone is a damage
abbrev pub a85_last : List ℕ → Own A85State
a85_last [] = holding [] (Some Clean)
a85_last (a ∷ []) = holding [] (Some (Damaged damage.LoneDigit 0))
a85_last (a ∷ b ∷ []) = a85_group 1 (value85 (a ∷ b ∷ 84 ∷ 84 ∷ 84 ∷ [])) (Some Clean)
a85_last (a ∷ b ∷ c ∷ []) = a85_group 2 (value85 (a ∷ b ∷ c ∷ 84 ∷ 84 ∷ [])) (Some Clean)
a85_last (a ∷ b ∷ c ∷ d ∷ more) = a85_group 3 (value85 (a ∷ b ∷ c ∷ d ∷ 84 ∷ [])) (Some Clean)

-- behind ~: white bytes are passed over, up to >; where that does not come, how it ends
abbrev pub a85_mark : List ℕ → Ending → Read (Result (Unit {0}) Ending)
a85_mark [] e = record { answer = Err (above e); left = []; peeked = true }
a85_mark (b ∷ bs) e =
    cond (white b) (a85_mark bs e)
    (record { answer = cond (b == 62) (Ok tt) (Err (Damaged damage.Stray 0)); left = bs; peeked = false })

-- the digits before ~ are judged once > has come
abbrev pub a85_judged : List ℕ → Result (Unit {0}) Ending → Own A85State
a85_judged digits (Ok u) = a85_last digits
a85_judged digits (Err x) = holding [] (Some x)

abbrev pub a85_close : List ℕ → List ℕ → Ending → Read (Own A85State)
a85_close digits rest e = record {
  answer = a85_judged digits (a85_mark rest e).answer;
  left = (a85_mark rest e).left;
  peeked = (a85_mark rest e).peeked;
}

-- a step that stops behind a byte that it took
abbrev pub stopped : Own A85State → List ℕ → Read (Own A85State)
stopped own left = record { answer = own; left = left; peeked = false }

-- what a byte does where digits are pending, `left` is left behind it and `on` says how the step goes on: a white byte is
-- passed over, and with a fifth digit a group is whole
abbrev pub a85_turn : Byte85 → List ℕ → List ℕ → Ending → (List ℕ → Read (Own A85State)) → Read (Own A85State)
a85_turn White digits left e on = on digits
a85_turn (Digit d) digits left e on =
    cond (nat_lt (length digits) 4) (on (digits ++ d ∷ [])) (stopped (a85_group 4 (value85 (digits ++ d ∷ [])) None) left)
a85_turn Zero digits left e on = stopped (a85_zeros digits) left
a85_turn Tilde digits left e on = a85_close digits left e
a85_turn Stray digits left e on = stopped (holding [] (Some (Damaged damage.Stray 0))) left

-- a step where some digits are pending
abbrev pub a85_at : List ℕ → List ℕ → Ending → Read (Own A85State)
a85_at digits [] e = stops tt (above e)
a85_at digits (b ∷ bs) e = a85_turn (byte_85_of b) digits bs e (λ ds. a85_at ds bs e)

abbrev pub a85_step : StepOf A85State
a85_step k c bs e = a85_at [] bs e

-- what the code keeps of the digits: how many they are and what they are worth
pub record Pending (digits : List ℕ) (group : Group) : Type 0 where
  pub many : group.count ≡ length digits
  pub worth : group.value ≡ value85 digits
  pub few : group.count ≤ 4
  pub low : Below85 digits
