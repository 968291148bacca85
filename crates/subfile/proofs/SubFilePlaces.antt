use Rattle.std.proofs.Common.{◌≡◌, ℕ, suc, ◌≤◌, ◌⊎◌, List, [], ◌∷◌, ◌++◌, length, refl, ap, ◌∙◌, inl, inr, arith}
use Rattle.std.proofs.lemmas.Bool.{cases_eq}
use Rattle.subfile.specs.SubFileLaw.{Nowhere, FirstPlace, Placed}

-- a list begins with a mark, or not
pub begins : (mark s : List ℕ) → ((b : List ℕ) × (s ≡ mark ++ b)) ⊎ ((b : List ℕ) → s ≡ mark ++ b → ⊥)
begins [] s = inl (s, refl)
begins (m ∷ mark) [] = inr (λ b e. let z : ◌≡◌ {A = ℕ} 0 1 = cc in omega arith)
begins (m ∷ mark) (x ∷ s) = by (cases_eq x m) (begins mark s)
  where
    by :
        (x ≡ m) ⊎ (x ≡ m → ⊥) → ((b : List ℕ) × (s ≡ mark ++ b)) ⊎ ((b : List ℕ) → s ≡ mark ++ b → ⊥)
        → ((b : List ℕ) × (x ∷ s ≡ m ∷ (mark ++ b))) ⊎ ((b : List ℕ) → x ∷ s ≡ m ∷ (mark ++ b) → ⊥)
    by (inl e) (inl p) = inl (p.0, cc p.1)
    by (inl e) (inr q) = inr (λ b w. q b (cc))
    by (inr d) p = inr (λ b w. d (cc))

tail_same : {x y : ℕ} {s t : List ℕ} → x ∷ s ≡ y ∷ t → s ≡ t
tail_same e = cc

-- where a list begins with the mark its first place is at the front
pub place_here : (mark behind : List ℕ) → FirstPlace mark [] behind
place_here mark behind f b e = omega arith

-- else it is that of what stands behind the first byte
pub place_next :
    (x : ℕ) (mark front behind : List ℕ) → ((b : List ℕ) → x ∷ (front ++ (mark ++ behind)) ≡ mark ++ b → ⊥) → FirstPlace mark front behind
    → FirstPlace mark (x ∷ front) behind
place_next x mark front behind d p [] b e = absurd (d b e)
place_next x mark front behind d p (y ∷ f) b e = let q : length front ≤ length f = p f b (tail_same e) in omega arith

pub place_tail : (x : ℕ) (mark front behind : List ℕ) → FirstPlace mark (x ∷ front) behind → FirstPlace mark front behind
place_tail x mark front behind p f b e = let q : suc (length front) ≤ suc (length f) = p (x ∷ f) b (ap (λ l. x ∷ l) e) in omega arith

pub nowhere_next : (x : ℕ) (mark s : List ℕ) → ((b : List ℕ) → x ∷ s ≡ mark ++ b → ⊥) → Nowhere mark s → Nowhere mark (x ∷ s)
nowhere_next x mark s d p [] b e = d b e
nowhere_next x mark s d p (y ∷ f) b e = p f b (tail_same e)

pub nowhere_tail : (x : ℕ) (mark s : List ℕ) → Nowhere mark (x ∷ s) → Nowhere mark s
nowhere_tail x mark s p f b e = p (x ∷ f) b (ap (λ l. x ∷ l) e)

pub placed_or_not : (mark s : List ℕ) → Placed mark s ⊎ Nowhere mark s
placed_or_not mark [] = by (begins mark [])
  where
    by : ((b : List ℕ) × ([] ≡ mark ++ b)) ⊎ ((b : List ℕ) → [] ≡ mark ++ b → ⊥) → Placed mark [] ⊎ Nowhere mark []
    by (inl p) = inl (record { front = []; behind = p.0; joined = p.1; place = place_here mark p.0 })
    by (inr d) = inr (nowhere_nil d)
      where
        nowhere_nil : ((b : List ℕ) → [] ≡ mark ++ b → ⊥) → Nowhere mark []
        nowhere_nil d [] b e = d b e
        nowhere_nil d (y ∷ f) b e = let z : ◌≡◌ {A = ℕ} 0 1 = cc in omega arith
placed_or_not mark (x ∷ s) = by (begins mark (x ∷ s)) (placed_or_not mark s)
  where
    by :
        ((b : List ℕ) × (x ∷ s ≡ mark ++ b)) ⊎ ((b : List ℕ) → x ∷ s ≡ mark ++ b → ⊥) → Placed mark s ⊎ Nowhere mark s
        → Placed mark (x ∷ s) ⊎ Nowhere mark (x ∷ s)
    by (inl p) q = inl (record { front = []; behind = p.0; joined = p.1; place = place_here mark p.0 })
    by (inr d) (inl q) = inl (record {
      front = x ∷ q.front;
      behind = q.behind;
      joined = ap (λ l. x ∷ l) q.joined;
      place = place_next x mark q.front q.behind (λ b e. d b (ap (λ l. x ∷ l) q.joined ∙ e)) q.place;
    })
    by (inr d) (inr q) = inr (nowhere_next x mark s d q)
