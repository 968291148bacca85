use Rattle.std.specs.Prelude.{◌≡◌, ℕ, ◌+◌, ◌<◌, ◌≤◌, Bool, true, false, List, [], ◌∷◌, length, Some, None, Option, refl}
use Rattle.std.proofs.Common.{sym, arith}
use Rattle.source.specs.declared.ending.Ending.{Ending}
use Rattle.source.specs.Gone.{Behind}
use Rattle.source.specs.Reads.{Read}
use Rattle.source.proofs.Going.{behind_self, behind_trans}
use Rattle.decoding.specs.Step.{Own, Sound, makes, stops}

-- `None` is no `Some`, and `false` is not `true`
pub none_some : {A C : Type 0} (x : A) → ◌≡◌ {A = Option A} None (Some x) → C
none_some x e = let z : ◌≡◌ {A = ℕ} 0 1 = cc in let no_way : ⊥ = omega arith in absurd no_way

pub false_true : {C : Type 0} → ◌≡◌ {A = Bool} false true → C
false_true e = let z : ◌≡◌ {A = ℕ} 0 1 = cc in let no_way : ⊥ = omega arith in absurd no_way

module _ {K : Type 0} (k : K) where
  -- a step that hands up a byte, with or without an end, behind a byte taken
  pub sound_byte : (n b : ℕ) (bs : List ℕ) (x : ℕ) (xs : List ℕ) (o : Option Ending) → length bs < n → Sound n (b ∷ bs) (makes k (x ∷ xs) o bs)
  sound_byte n b bs x xs o h = record {
    behind = record { front = b ∷ []; joined = refl };
    met_end = λ e. false_true e;
    fills = λ e. (x, xs, refl);
    falls = λ e. let z : 0 + length bs < n = omega arith in z;
    ends = λ z e. refl;
  }

  -- a step that ends behind a byte taken
  pub sound_last : (n b : ℕ) (bs : List ℕ) (ready : List ℕ) (x : Ending) → Sound n (b ∷ bs) (makes k ready (Some x) bs)
  sound_last n b bs ready x = record {
    behind = record { front = b ∷ []; joined = refl };
    met_end = λ e. false_true e;
    fills = λ e. none_some x (sym e);
    falls = λ e. none_some x (sym e);
    ends = λ z e. refl;
  }

  -- a step that ends at the end below
  pub sound_stop : (n : ℕ) (x : Ending) → Sound n [] (stops k x)
  sound_stop n x = record {
    behind = behind_self [];
    met_end = λ e. refl;
    fills = λ e. none_some x (sym e);
    falls = λ e. none_some x (sym e);
    ends = λ z e. refl;
  }

-- a step that went on behind some bytes
pub sound_behind : {K : Type 0} {n j : ℕ} {bs cs : List ℕ} {s : Read (Own K)} → Behind bs cs → n ≤ j → Sound n bs s → Sound j cs s
sound_behind b h q = record {
  behind = behind_trans q.behind b;
  met_end = q.met_end;
  fills = q.fills;
  falls = λ o. omega (arith, q.falls o);
  ends = q.ends;
}

-- a step that passed over a byte
pub sound_on : {K : Type 0} {n j : ℕ} (b : ℕ) {bs : List ℕ} {s : Read (Own K)} → n ≤ j → Sound n bs s → Sound j (b ∷ bs) s
sound_on b h q = sound_behind (record { front = b ∷ []; joined = refl }) h q
