use Rattle.std.proofs.Common.{◌≡◌, ℕ, suc, ◌+◌, ◌<◌, ◌≤◌, List, [], ◌∷◌, ◌++◌, length, take, drop, set, refl, sym, ap, ap₂, ◌∙◌, subst, arith}
use borrow.Rule.Slice.PartMut.{put_mid}
use Rattle.std.proofs.lemmas.List.{append_assoc, length-append, length-drop, length-take-le, take-append-drop, take_at, drop_at, drop-drop, set_split}
use Rattle.listing.specs.Placing.{Placed}

-- nothing
pub placed_none : (at : ℕ) (l : List ℕ) → at ≤ length l → Placed at [] l at l
placed_none at l h =
    let e : at ≡ at + 0 = omega arith in
    record { within = omega arith; behind = e; holds = sym (take-append-drop at l) ∙ ap (λ k. take at l ++ drop k l) e }

-- one byte
pub placed_byte : (at b : ℕ) (l : List ℕ) → at < length l → Placed at (b ∷ []) l (at + 1) (set l at b)
placed_byte at b l h =
    let e : suc at ≡ at + 1 = omega arith in
    record { within = omega arith; behind = refl; holds = set_split l at b h ∙ ap (λ k. take at l ++ b ∷ drop k l) e }

-- bytes copied into a part of the line
pub placed_part :
    (at : ℕ) (p l ys : List ℕ) (k : ℕ) → at + length p ≤ length l → ys ≡ p → k ≡ length p → Placed at p l (at + length p) (put_mid at k l ys)
placed_part at p l ys k h e f = record {
  within = h;
  behind = refl;
  holds = ap₂ (λ y k. take at l ++ (y ++ drop k (drop at l))) e f ∙ ap (λ z. take at l ++ (p ++ z)) (drop-drop (length p) at l);
}

-- the line is as long as it was
pub placed_length : {at : ℕ} {p l : List ℕ} {m : ℕ} {l₁ : List ℕ} → Placed at p l m l₁ → length l₁ ≡ length l
placed_length {at} {p} {l} x =
    let w = x.within in
    let a : at ≤ length l = omega arith in
    omega (arith, simp (length-append, length-drop) at (ap length x.holds), length-take-le at l a)

-- one piece behind another
pub placed_then :
    {at : ℕ} {p q l : List ℕ} {m : ℕ} {l₁ : List ℕ} {n : ℕ} {l₂ : List ℕ} → Placed at p l m l₁ → Placed m q l₁ n l₂ → Placed at (p ++ q) l n l₂
placed_then {at} {p} {q} {l} {m} {l₁} x y =
    let k = length-append p q in
    let w = x.within in
    let a : at ≤ length l = omega arith in
    let size = placed_length x in
    let front : length (take at l ++ p) ≡ m = length-append (take at l) p ∙ (ap (λ k. k + length p) (length-take-le at l a) ∙ sym x.behind) in
    let split : l₁ ≡ (take at l ++ p) ++ drop (at + length p) l = x.holds ∙ sym (append_assoc (take at l) p (drop (at + length p) l)) in
    let t : take m l₁ ≡ take at l ++ p = ap (take m) split ∙ take_at (take at l ++ p) _ m front in
    let d : drop m l₁ ≡ drop (at + length p) l = ap (drop m) split ∙ drop_at (take at l ++ p) _ m front in
    let e : (at + length p) + length q ≡ at + length (p ++ q) = omega arith in
    let u : drop (m + length q) l₁ ≡ drop (at + length (p ++ q)) l =
    sym (drop-drop (length q) m l₁) ∙ (ap (drop (length q)) d ∙ (drop-drop (length q) (at + length p) l ∙ ap (λ k. drop k l) e)) in
    record {
      within = omega (arith, y.within);
      behind = omega (arith, x.behind, y.behind);
      holds =
          y.holds
          ∙ (ap₂ (λ f b. f ++ (q ++ b)) t u
          ∙ (append_assoc (take at l) p _ ∙ ap (λ z. take at l ++ z) (sym (append_assoc p q _))));
    }

-- the same piece and place, as other terms
pub placed_as : {at : ℕ} {p q l : List ℕ} {m n : ℕ} {l₁ : List ℕ} → Placed at p l m l₁ → p ≡ q → m ≡ n → Placed at q l n l₁
placed_as {at} {p} {q} {l} {m} {n} {l₁} x e f = subst (λ p. Placed at p l n l₁) e (subst (λ m. Placed at p l m l₁) f x)
