use Rattle.std.proofs.Common.{◌≡◌, ℕ, Ok, Err, zero, suc, ◌+◌, ◌-◌, ◌≤◌, Bool, true, false, ◌||◌, List, [], ◌∷◌, ◌++◌, length, drop, sym, refl, ap, ◌∙◌, subst, ap₂, append_assoc, arith, length-append}
use Rattle.source.specs.declared.ending.Ending.{Ending}
use Rattle.source.specs.Model.{Model, first, tail}
use Rattle.source.specs.Laws.{Lawful}
use Rattle.source.specs.Gone.{takes, peek, gone_to, Behind}

pub drop_nil : (n : ℕ) → drop {A = ℕ} n [] ≡ []
drop_nil zero = refl
drop_nil (suc n) = refl

pub drop_front : (f l : List ℕ) → drop (length f) (f ++ l) ≡ l
drop_front [] l = refl
drop_front (x ∷ f) l = drop_front f l

pub behind_self : (l : List ℕ) → Behind l l
behind_self l = record { front = []; joined = refl }

pub behind_trans : {a b c : List ℕ} → Behind a b → Behind b c → Behind a c
behind_trans {a} {b} {c} p q = record {
  front = q.front ++ p.front;
  joined = q.joined ∙ (ap (λ l. q.front ++ l) p.joined ∙ sym (append_assoc q.front p.front a));
}

pub behind_nil : {a : List ℕ} → Behind a [] → a ≡ []
behind_nil {a} p = nothing p.front a p.joined
  where
    nothing : (f a : List ℕ) → [] ≡ f ++ a → a ≡ []
    nothing [] a e = sym e
    nothing (x ∷ f) a e = let z : ◌≡◌ {A = ℕ} 0 1 = cc in let no_way : ⊥ = omega arith in absurd no_way

pub behind_fewer : {a b : List ℕ} → Behind a b → length a ≤ length b
behind_fewer {a} {b} p = omega (arith, length-append p.front a, ap length p.joined)

-- how many stand before
pub behind_count : {a b : List ℕ} (p : Behind a b) → length b - length a ≡ length p.front
behind_count {a} {b} p = omega (arith, length-append p.front a, ap length p.joined)

-- what a byte or an end that was answered says of the rest
pub byte_first : (r : List ℕ) (e : Ending) (b : ℕ) → Ok b ≡ first r e → r ≡ b ∷ tail r
byte_first [] e b p = let z : ◌≡◌ {A = ℕ} 0 1 = cc in let no_way : ⊥ = omega arith in absurd no_way
byte_first (x ∷ r) e b p = let q : b ≡ x = cc in ap (λ y. y ∷ r) (sym q)

pub end_first : (r : List ℕ) (e f : Ending) → Err f ≡ first r e → (r ≡ []) × (f ≡ e)
end_first [] e f p = (refl, cc)
end_first (x ∷ r) e f p = let z : ◌≡◌ {A = ℕ} 0 1 = cc in let no_way : ⊥ = omega arith in absurd no_way

pub takes_more : {H : Type 0} (m : Model H) (n : ℕ) (h : H) → takes m (suc n) h ≡ m.taken (takes m n h)
takes_more m zero h = refl
takes_more m (suc n) h = takes_more m n (m.taken h)

pub takes_takes : {H : Type 0} (m : Model H) (n k : ℕ) (h : H) → takes m k (takes m n h) ≡ takes m (n + k) h
takes_takes m zero k h = let e : k ≡ 0 + k = omega arith in ap (λ j. takes m j h) e
takes_takes m (suc n) k h = let e : suc (n + k) ≡ suc n + k = omega arith in takes_takes m n k (m.taken h) ∙ ap (λ j. takes m j h) e

module _ {H : Type 0} (m : Model H) (l : Lawful H m) where
  pub takes_rest : (n : ℕ) (h : H) → m.rest (takes m n h) ≡ drop n (m.rest h)
  takes_rest zero h = refl
  takes_rest (suc n) h = takes_rest n (m.taken h) ∙ (ap (drop n) (l.taken_rest h) ∙ dropped (m.rest h))
    where
      dropped : (r : List ℕ) → drop n (tail r) ≡ drop (suc n) r
      dropped [] = drop_nil n
      dropped (x ∷ r) = refl

  pub takes_ending : (n : ℕ) (h : H) → m.ending (takes m n h) ≡ m.ending h
  takes_ending zero h = refl
  takes_ending (suc n) h = takes_ending n (m.taken h) ∙ l.taken_ending h

  pub peek_rest : (p : Bool) (h : H) → m.rest (peek m p h) ≡ m.rest h
  peek_rest true h = l.looked_rest h
  peek_rest false h = refl

  pub peek_ending : (p : Bool) (h : H) → m.ending (peek m p h) ≡ m.ending h
  peek_ending true h = l.looked_ending h
  peek_ending false h = refl

  pub gone_rest : (h : H) (left : List ℕ) (p : Bool) → Behind left (m.rest h) → m.rest (gone_to m h left p) ≡ left
  gone_rest h left p b =
      peek_rest p (takes m (length (m.rest h) - length left) h)
      ∙ (takes_rest (length (m.rest h) - length left) h
      ∙ (ap₂ drop (behind_count b) b.joined ∙ drop_front b.front left))

  pub gone_ending : (h : H) (left : List ℕ) (p : Bool) → m.ending (gone_to m h left p) ≡ m.ending h
  gone_ending h left p =
      peek_ending p (takes m (length (m.rest h) - length left) h) ∙ takes_ending (length (m.rest h) - length left) h

  -- going on from where one has gone
  pub gone_gone :
      (h : H) (a b : List ℕ) (p q : Bool) → Behind a (m.rest h) → Behind b a → (p ≡ true → a ≡ [])
      → gone_to m (gone_to m h a p) b q ≡ gone_to m h b (p || q)
  gone_gone h a b false q x y z =
      let e : (length (m.rest h) - length a) + (length (m.rest (gone_to m h a false)) - length b) ≡ length (m.rest h) - length b
      = omega (arith, behind_fewer x, behind_fewer y, ap length (gone_rest h a false x)) in
      ap (peek m q) (
      takes_takes m (length (m.rest h) - length a) (length (m.rest (gone_to m h a false)) - length b) h
      ∙ ap (λ j. takes m j h) e)
  gone_gone h a b true q x y z =
      let ae : a ≡ [] = z refl in
      let be : b ≡ [] = behind_nil (subst (λ w. Behind b w) ae y) in
      let k : length (m.rest (gone_to m h a true)) - length b ≡ 0 = omega (arith, ap length (gone_rest h a true x), ap length ae) in
      let e : length a ≡ length b = ap length (ae ∙ sym be) in
      ap (λ j. peek m q (takes m j (gone_to m h a true))) k
      ∙ (again q (takes m (length (m.rest h) - length a) h) ∙ ap (λ j. m.looked (takes m (length (m.rest h) - j) h)) e)
    where
      again : (q : Bool) (h : H) → peek m q (m.looked h) ≡ m.looked h
      again true h = l.looked_twice h
      again false h = refl
