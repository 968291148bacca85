use Rattle.std.specs.Prelude.{◌≡◌, ℕ, suc, ◌+◌, ◌/◌, ◌%◌, ◌≤◌, Bool, true, false, cond, List, [], ◌∷◌, ◌++◌, length, take, Some, None, Result, Ok, Err, ◌==◌, nat_le, nat_lt, refl}
use Rattle.std.proofs.Common.{sym, ◌∙◌, arith, length-drop, length-take}
use Rattle.source.specs.declared.ending.Damage.TheVariants as damage
use Rattle.source.specs.declared.ending.Ending.{Ending}
use Rattle.source.specs.declared.ending.Ending.TheVariants.{Clean, Damaged}
use Rattle.source.specs.Bytes.{white}
use Rattle.source.specs.Gone.{Behind}
use Rattle.source.specs.Reads.{Read}
use Rattle.source.proofs.Going.{behind_self, behind_trans}
use Rattle.source.proofs.Calls.{Steady, steady_here, steady_next, steady_then}
use Rattle.ascii.specs.declared.ascii85.Byte85.{Byte85}
use Rattle.ascii.specs.declared.ascii85.Byte85.TheVariants.{Digit, White, Zero, Tilde, Stray}
use Rattle.ascii.specs.declared.ascii85.Ascii85.{Ascii85}
use Rattle.decoding.specs.Ends.{above}
use Rattle.ascii.specs.Ready4.{bytes4}
use Rattle.decoding.specs.Step.{Own, Sound, LawfulStep}
use Rattle.decoding.specs.SoundSteps.{none_some, false_true, sound_byte, sound_last, sound_stop, sound_behind, sound_on}
use Rattle.ascii.specs.Ascii85.{A85State, a85_holds, byte_85_of, value85, holding, a85_group, a85_last, a85_mark, a85_judged, a85_zeros, stopped, a85_turn, a85_at, a85_step}

-- what is taken behind ~
mark_by : (c : Bool) (b : ℕ) (bs : List ℕ) (s : Read (Result (Unit {0}) Ending)) (o : Result (Unit {0}) Ending) → Steady bs s.left s.peeked → (s.peeked ≡ true → s.left ≡ [])
    → let r : Read (Result (Unit {0}) Ending) = cond c s (record { answer = o; left = bs; peeked = false }) in
    Steady (b ∷ bs) r.left r.peeked × (r.peeked ≡ true → r.left ≡ [])
mark_by true b bs s o q w = (steady_then (steady_next b bs) q, w)
mark_by false b bs s o q w = (steady_next b bs, λ e. false_true e)

mark_sound : (rest : List ℕ) (e : Ending)
    → Steady rest (a85_mark rest e).left (a85_mark rest e).peeked × ((a85_mark rest e).peeked ≡ true → (a85_mark rest e).left ≡ [])
mark_sound [] e = (steady_here [], λ q. refl)
mark_sound (b ∷ bs) e =
    mark_by (white b) b bs (a85_mark bs e) (cond (b == 62) (Ok tt) (Err (Damaged damage.Stray 0))) (mark_sound bs e).0 (mark_sound bs e).1

pub mark_steady : (rest : List ℕ) (e : Ending) → Steady rest (a85_mark rest e).left (a85_mark rest e).peeked
mark_steady rest e = (mark_sound rest e).0

-- a filter that has ended
record Ended (own : Own A85State) : Type 0 where
  by : Ending
  is : own.ended ≡ Some by
  clear : own.compared ≡ []

ended_by : (ready : List ℕ) (x : Ending) → Ended (holding ready (Some x))
ended_by ready x = record { by = x; is = refl; clear = refl }

-- a step that has ended
sound_ended : (n : ℕ) (bs left : List ℕ) (own : Own A85State) (peeked : Bool) → Ended own → Behind left bs → (peeked ≡ true → left ≡ [])
    → Sound n bs (record { answer = own; left = left; peeked = peeked })
sound_ended n bs left own peeked d q w = record {
  behind = q;
  met_end = w;
  fills = λ e. none_some d.by (sym e ∙ d.is);
  falls = λ e. none_some d.by (sym e ∙ d.is);
  ends = λ z e. d.clear;
}

group_ended : (t : Bool) (ready : List ℕ) → Ended (cond t (holding ready (Some Clean)) (holding [] (Some (Damaged damage.Overflow 0))))
group_ended true ready = ended_by ready Clean
group_ended false ready = ended_by [] (Damaged damage.Overflow 0)

last_ended : (digits : List ℕ) → Ended (a85_last digits)
last_ended [] = ended_by [] Clean
last_ended (a ∷ []) = ended_by [] (Damaged damage.LoneDigit 0)
last_ended (a ∷ b ∷ []) = group_ended _ (take 1 (bytes4 (value85 (a ∷ b ∷ 84 ∷ 84 ∷ 84 ∷ []))))
last_ended (a ∷ b ∷ c ∷ []) = group_ended _ (take 2 (bytes4 (value85 (a ∷ b ∷ c ∷ 84 ∷ 84 ∷ []))))
last_ended (a ∷ b ∷ c ∷ d ∷ ds) = group_ended _ (take 3 (bytes4 (value85 (a ∷ b ∷ c ∷ d ∷ 84 ∷ []))))

judged_ended : (digits : List ℕ) (r : Result (Unit {0}) Ending) → Ended (a85_judged digits r)
judged_ended digits (Ok u) = last_ended digits
judged_ended digits (Err x) = ended_by [] x

group_sound : (t : Bool) (b : ℕ) (bs : List ℕ) (x : ℕ) (xs : List ℕ)
    → Sound (suc (length bs)) (b ∷ bs) (stopped (cond t (holding (x ∷ xs) None) (holding [] (Some (Damaged damage.Overflow 0)))) bs)
group_sound true b bs x xs = sound_byte tt (suc (length bs)) b bs x xs None (omega arith)
group_sound false b bs x xs = sound_last tt (suc (length bs)) b bs [] (Damaged damage.Overflow 0)

digit_sound : (t : Bool) (v : ℕ) (b : ℕ) (bs : List ℕ) (s : Read (Own A85State)) → Sound (length bs) bs s
    → Sound (suc (length bs)) (b ∷ bs) (cond t s (stopped (a85_group 4 v None) bs))
digit_sound true v b bs s q = sound_on b (omega arith) q
digit_sound false v b bs s q = group_sound (nat_le v 4294967295) b bs (v / 16777216) (v / 65536 % 256 ∷ v / 256 % 256 ∷ v % 256 ∷ [])

zeros_sound : (digits : List ℕ) (b : ℕ) (bs : List ℕ) → Sound (suc (length bs)) (b ∷ bs) (stopped (a85_zeros digits) bs)
zeros_sound [] b bs = sound_byte tt (suc (length bs)) b bs 0 (0 ∷ 0 ∷ 0 ∷ []) None (omega arith)
zeros_sound (d ∷ ds) b bs = sound_last tt (suc (length bs)) b bs [] (Damaged damage.Stray 0)

turn_sound :
    (t : Byte85) (digits : List ℕ) (b : ℕ) (bs : List ℕ) (e : Ending) (on : List ℕ → Read (Own A85State))
    → ((ds : List ℕ) → Sound (length bs) bs (on ds)) → Sound (suc (length bs)) (b ∷ bs) (a85_turn t digits bs e on)
turn_sound White digits b bs e on q = sound_on b (omega arith) (q digits)
turn_sound (Digit d) digits b bs e on q =
    digit_sound (nat_lt (length digits) 4) (value85 (digits ++ d ∷ [])) b bs (on (digits ++ d ∷ [])) (q (digits ++ d ∷ []))
turn_sound Zero digits b bs e on q = zeros_sound digits b bs
turn_sound Tilde digits b bs e on q =
    sound_ended (suc (length bs)) (b ∷ bs) (a85_mark bs e).left (a85_judged digits (a85_mark bs e).answer) (a85_mark bs e).peeked (judged_ended digits (a85_mark bs e).answer)
    (behind_trans (mark_sound bs e).0.behind (record { front = b ∷ []; joined = refl })) (mark_sound bs e).1
turn_sound Stray digits b bs e on q = sound_last tt (suc (length bs)) b bs [] (Damaged damage.Stray 0)

at_sound : (digits bs : List ℕ) (e : Ending) → Sound (length bs) bs (a85_at digits bs e)
at_sound digits [] e = sound_stop tt 0 (above e)
at_sound digits (b ∷ bs) e = turn_sound (byte_85_of b) digits b bs e (λ ds. a85_at ds bs e) (λ ds. at_sound ds bs e)

pub a85_lawful : LawfulStep A85State a85_step
a85_lawful k c bs e = sound_behind (behind_self bs) (omega arith) (at_sound [] bs e)

-- four bytes at the most
pub a85_within : (f : Ascii85) → length (a85_holds f).ready + 0 ≤ 4
a85_within f = simp (length-drop, length-take) (omega arith)
