use Rattle.std.proofs.Common.{◌≡◌, ℕ, List, [], ◌∷◌, ◌++◌, Ok, Err, Result, ◌+◌, length, refl, sym, ap, ap₂, ◌∙◌, subst, arith}
use Rattle.std.specs.Prelude.{⊤}
use Rattle.std.specs.List.{concat, FoldsTo}
use Rattle.std.proofs.lemmas.List.{append_assoc, append-nil, length-append}
use Rattle.listing.specs.declared.refusal.Refusal.{Refusal}
use Rattle.listing.specs.Puts.{Taken, Full, Puts}

-- refused behind bytes that were taken, and before others
pub full_before : {n : ℕ} {p : List ℕ} {e : Refusal} (q : List ℕ) → Full n p e → Full n (p ++ q) e
full_before {n} {p} q x = record { line = x.line; short = omega (arith, x.short, length-append p q) }

pub full_as : {n : ℕ} {p q : List ℕ} {e : Refusal} → Full n p e → p ≡ q → Full n q e
full_as {n} {p} {q} {e} x h = subst (λ p. Full n p e) h x

folds_then :
    {S : Type 0} (takes : S → List ℕ → S → Type 0) (p q : List (List ℕ)) (s t u : S)
    → FoldsTo takes s p t → FoldsTo takes t q u → FoldsTo takes s (p ++ q) u
folds_then takes [] q s t u x y = subst (λ v. FoldsTo takes v q u) (sym x) y
folds_then takes (b ∷ p) q s t u x y = (x.0, x.1, folds_then takes p q x.0 t u x.2 y)

concat_then : (p q : List (List ℕ)) → concat (p ++ q) ≡ concat p ++ concat q
concat_then [] q = refl
concat_then (b ∷ p) q = ap (λ z. b ++ z) (concat_then p q) ∙ sym (append_assoc b (concat p) (concat q))

module _ {S : Type 0} {room : S → ℕ} {takes : S → List ℕ → S → Type 0} where
  pub taken_none : (s : S) → Taken room takes s [] s
  taken_none s = record { bytes = record { parts = []; calls = refl; whole = refl }; left = omega arith }

  -- one call
  pub taken_once : (s : S) (p : List ℕ) (t : S) → takes s p t → room s ≡ room t + length p → Taken room takes s p t
  taken_once s p t x e = record { bytes = record { parts = p ∷ []; calls = (t, x, refl); whole = append-nil p }; left = e }

  -- one text behind another
  pub taken_then : {p q : List ℕ} {s t u : S} → Taken room takes s p t → Taken room takes t q u → Taken room takes s (p ++ q) u
  taken_then {p} {q} {s} {t} {u} x y = record {
    bytes = record {
      parts = x.bytes.parts ++ y.bytes.parts;
      calls = folds_then takes x.bytes.parts y.bytes.parts s t u x.bytes.calls y.bytes.calls;
      whole = concat_then x.bytes.parts y.bytes.parts ∙ ap₂ (λ a b. a ++ b) x.bytes.whole y.bytes.whole;
    };
    left = omega (arith, x.left, y.left, length-append p q);
  }

  -- the same text, as another term
  pub taken_as : {p q : List ℕ} {s t : S} → Taken room takes s p t → p ≡ q → Taken room takes s q t
  taken_as {p} {q} {s} {t} x e = subst (λ p. Taken room takes s p t) e x

  pub full_behind : {p q : List ℕ} {s t : S} {e : Refusal} → Taken room takes s p t → Full (room t) q e → Full (room s) (p ++ q) e
  full_behind {p} {q} x y = record { line = y.line; short = omega (arith, x.left, y.short, length-append p q) }

  -- a last text behind what was taken
  pub puts_last :
      {p : List ℕ} {s t : S} (q text : List ℕ) (r : Result ⊤ Refusal) (u : S)
      → Taken room takes s p t → Puts room takes t q r u → p ++ q ≡ text → Puts room takes s text r u
  puts_last q text (Ok z) u x y e = taken_as (taken_then x y) e
  puts_last q text (Err f) u x y e = full_as (full_behind x y) e
