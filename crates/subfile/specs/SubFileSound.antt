use Rattle.std.specs.Prelude.{◌≡◌, ℕ, suc, ◌+◌, ◌<◌, ◌≤◌, Bool, true, false, cond, ◌⊎◌, List, [], ◌∷◌, ◌++◌, length, take, Some, None, Option, ◌==◌, refl}
use Rattle.std.proofs.Common.{sym, ap₂, inl, inr, arith, length-append, length-take, length-drop}
use Rattle.source.specs.declared.ending.Ending.{Ending}
use Rattle.source.specs.declared.ending.Ending.TheVariants.{Clean}
use Rattle.source.specs.Reads.{Read}
use Rattle.source.proofs.Going.{behind_self}
use Rattle.subfile.specs.declared.subfile.Match.{Match}
use Rattle.subfile.specs.declared.subfile.Match.TheVariants.{Starts, Equals, Fails}
use Rattle.subfile.specs.declared.subfile.SubFile.{SubFile}
use Rattle.subfile.specs.declared.window.Window.{Window}
use Rattle.decoding.specs.Ends.{passed, above}
use Rattle.subfile.specs.Holding.{ready_of, compared_of}
use Rattle.decoding.specs.Step.{Own, Sound, LawfulStep, makes}
use Rattle.decoding.specs.SoundSteps.{none_some, false_true, sound_byte, sound_stop, sound_on}
use Rattle.subfile.specs.SubFile.{SubState, sub_holds, judged, counted, last_ends, byte_at, first_at, cut_at, mark_turn, mark_at, sub_by, sub_step}

byte_sound : (k : SubState) (c bs : List ℕ) (e : Ending) → Sound (length c + length bs) bs (byte_at k bs e)
byte_sound k c [] e = sound_stop k (length c + 0) (cond (k.count == 0) (passed e) (above e))
byte_sound k c (b ∷ bs) e = by (k.count == 0)
  where
    by : (t : Bool) → Sound (length c + suc (length bs)) (b ∷ bs) (cond t (makes k (b ∷ []) None bs) (makes (counted k) (b ∷ []) (last_ends k.count) bs))
    by true = sound_byte k (length c + suc (length bs)) b bs b [] None (omega arith)
    by false = sound_byte (counted k) (length c + suc (length bs)) b bs b [] (last_ends k.count) (omega arith)

-- a step that takes nothing, or only what is held now
held_sound : (k : SubState) (x : ℕ) (c bs : List ℕ) (o : Option Ending) → Sound (suc (length c) + length bs) bs (makes k (x ∷ c) o bs)
held_sound k x c bs o = record {
  behind = behind_self bs;
  met_end = λ e. false_true e;
  fills = λ e. (x, c, refl);
  falls = λ e. let z : 0 + length bs < suc (length c) + length bs = omega arith in z;
  ends = λ z e. refl;
}

dropped_sound : (k : SubState) (n : ℕ) (bs : List ℕ) → Sound n bs (makes k [] (Some Clean) bs)
dropped_sound k n bs = record {
  behind = behind_self bs;
  met_end = λ e. false_true e;
  fills = λ e. none_some Clean (sym e);
  falls = λ e. none_some Clean (sym e);
  ends = λ z e. refl;
}

cut_sound : (k : SubState) (c : List ℕ) (n : ℕ) (e : Ending) → Sound n [] (cut_at k c e)
cut_sound k c n e = record {
  behind = behind_self [];
  met_end = λ p. refl;
  fills = λ p. none_some (above e) (sym p);
  falls = λ p. none_some (above e) (sym p);
  ends = λ z p. refl;
}

-- a step that hands up the first byte held
first_sound : (k : SubState) (x : ℕ) (c bs : List ℕ) → Sound (suc (length c) + length bs) bs (first_at k (x ∷ c) bs)
first_sound k x c bs = record {
  behind = behind_self bs;
  met_end = λ e. false_true e;
  fills = λ e. (x, [], refl);
  falls = λ e. let z : length c + length bs < suc (length c) + length bs = omega arith in z;
  ends = λ z e. none_some z e;
}

no_start : {C : Type 0} (t : Match) → t ≡ Starts → (t ≡ Equals) ⊎ (t ≡ Fails) → C
no_start t e (inl q) = let z : ◌≡◌ {A = ℕ} 0 1 = cc in let no_way : ⊥ = omega arith in absurd no_way
no_start t e (inr q) = let z : ◌≡◌ {A = ℕ} 0 1 = cc in let no_way : ⊥ = omega arith in absurd no_way

turn_sound :
    (t : Match) (k : SubState) (c bs : List ℕ) (on : Read (Own SubState))
    → (c ≡ [] → t ≡ Starts) → Sound (length c + length bs) bs on → Sound (length c + length bs) bs (mark_turn t k c bs on)
turn_sound Starts k c bs on f q = q
turn_sound Equals k [] bs on f q = no_start Equals (f refl) (inl refl)
turn_sound Equals k (x ∷ c) bs on f q = by (k.count == 0)
  where
    by : (t : Bool) → Sound (suc (length c) + length bs) bs (cond t (makes k [] (Some Clean) bs) (makes (counted k) (x ∷ c) (last_ends k.count) bs))
    by true = dropped_sound k (suc (length c) + length bs) bs
    by false = held_sound (counted k) x c bs (last_ends k.count)
turn_sound Fails k [] bs on f q = no_start Fails (f refl) (inr refl)
turn_sound Fails k (x ∷ c) bs on f q = first_sound k x c bs

mark_sound : (k : SubState) (m : ℕ) (mark : List ℕ) → k.mark ≡ m ∷ mark → (c bs : List ℕ) (e : Ending) → Sound (length c + length bs) bs (mark_at k c bs e)
mark_sound k m mark q c [] e = turn_sound (judged k.mark c) k c [] (cut_at k c e) (λ z. ap₂ judged q z) (cut_sound k c (length c + 0) e)
mark_sound k m mark q c (b ∷ bs) e =
    turn_sound (judged k.mark c) k c (b ∷ bs) (mark_at k (c ++ b ∷ []) bs e) (λ z. ap₂ judged q z)
    (sound_on b (let z : length (c ++ b ∷ []) + length bs ≤ length c + suc (length bs) = omega (arith, length-append c (b ∷ [])) in z) (mark_sound k m mark q (c ++ b ∷ []) bs e))

pub sub_lawful : LawfulStep SubState sub_step
sub_lawful k c bs e = by k.mark refl
  where
    by : (mark : List ℕ) → k.mark ≡ mark → Sound (length c + length bs) bs (sub_by mark k c bs e)
    by [] q = byte_sound k c bs e
    by (m ∷ mark) q = mark_sound k m mark q c bs e

-- sixteen bytes at the most
window_within : (w : Window) → length (ready_of w) + length (compared_of w) ≤ 16
unfolding ready_of compared_of
window_within w =
    omega (
      arith,
      length-drop w.from (take w.ready w.bytes),
      length-take w.ready w.bytes,
      length-drop w.ready (take w.all w.bytes),
      length-take w.all w.bytes,
    )

pub sub_within : (f : SubFile) → length (sub_holds f).ready + length (sub_holds f).compared ≤ 16
sub_within f = window_within f.held
