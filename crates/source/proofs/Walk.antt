use Rattle.std.proofs.Common.{◌≡◌, ℕ, Ok, Err, zero, suc, ◌+◌, ◌-◌, ◌<◌, ◌≤◌, Bool, true, false, ◌&&◌, ◌||◌, eqb, List, [], ◌∷◌, length, sym, refl, ap, ◌∙◌, subst, arith}
use Rattle.std.proofs.lemmas.Bool.{eq-eqb, ne_eqb}
use Rattle.source.specs.declared.ending.Ending.{Ending}
use Rattle.source.specs.Model.{Model, first, tail}
use Rattle.source.specs.Laws.{Lawful}
use Rattle.source.specs.Gone.{takes, peek, gone_to, Behind}
use Rattle.source.proofs.Going.{byte_first, end_first, takes_more, takes_takes, behind_fewer, gone_rest}

-- x is what is held once some bytes were taken from h and then, if so said, a look was made
pub record Reach {H : Type 0} (m : Model H) (h x : H) : Type 0 where
  pub peeked : Bool
  pub fewer : length (m.rest x) ≤ length (m.rest h)
  pub there : x ≡ gone_to m h (m.rest x) peeked
  pub same : m.ending x ≡ m.ending h

-- the invariant of a loop over a source: what `go` says of what is left is w, which it said of the whole
pub record Walk {H R : Type 0} (m : Model H) (h x : H) (go : List ℕ → R) (w : R) : Type 0 where
  pub at : Reach m h x
  pub on : go (m.rest x) ≡ w

module _ {H : Type 0} (m : Model H) (l : Lawful H m) where
  take_peek : (p : Bool) (h : H) → m.taken (peek m p h) ≡ m.taken h
  take_peek true h = l.looked_taken h
  take_peek false h = refl

  look_peek : (p : Bool) (h : H) → m.looked (peek m p h) ≡ m.looked h
  look_peek true h = l.looked_twice h
  look_peek false h = refl

  -- nothing was taken
  pub gone_here : (h : H) → h ≡ gone_to m h (m.rest h) false
  gone_here h = ap (λ j. takes m j h) (let e : 0 ≡ length (m.rest h) - length (m.rest h) = omega arith in e)

  pub reach_start : (h : H) → Reach m h h
  reach_start h = record {
    peeked = false;
    fewer = omega arith;
    there = gone_here h;
    same = refl;
  }

  -- a byte was taken
  pub took : (h x : H) (b : ℕ) → Reach m h x → Ok b ≡ first (m.rest x) (m.ending x) → m.taken x ≡ gone_to m h (m.rest (m.taken x)) false
  took h x b f p =
      let e : m.rest x ≡ b ∷ tail (m.rest x) = byte_first (m.rest x) (m.ending x) b p in
      let t : m.rest (m.taken x) ≡ tail (m.rest x) = l.taken_rest x in
      let n : length (m.rest x) ≡ suc (length (m.rest (m.taken x))) = ap length e ∙ ap (λ r. suc (length r)) (sym t) in
      ap m.taken f.there
      ∙ (take_peek f.peeked (takes m (length (m.rest h) - length (m.rest x)) h)
      ∙ (sym (takes_more m (length (m.rest h) - length (m.rest x)) h)
      ∙ ap (λ j. takes m j h) (let k : suc (length (m.rest h) - length (m.rest x)) ≡ length (m.rest h) - length (m.rest (m.taken x)) = omega (arith, f.fewer, n) in k)))

  pub reach_took : (h x : H) (b : ℕ) → Reach m h x → Ok b ≡ first (m.rest x) (m.ending x) → Reach m h (m.taken x)
  reach_took h x b f p =
      let e : m.rest x ≡ b ∷ tail (m.rest x) = byte_first (m.rest x) (m.ending x) b p in
      let t : m.rest (m.taken x) ≡ tail (m.rest x) = l.taken_rest x in
      let n : length (m.rest x) ≡ suc (length (m.rest (m.taken x))) = ap length e ∙ ap (λ r. suc (length r)) (sym t) in
      record {
        peeked = false;
        fewer = omega (arith, f.fewer, n);
        there = took h x b f p;
        same = l.taken_ending x ∙ f.same;
      }

  -- a look was made
  pub looked : (h x : H) → Reach m h x → m.looked x ≡ gone_to m h (m.rest x) true
  looked h x f = ap m.looked f.there ∙ look_peek f.peeked (takes m (length (m.rest h) - length (m.rest x)) h)

  pub reach_looked : (h x : H) → Reach m h x → Reach m h (m.looked x)
  reach_looked h x f = record {
    peeked = true;
    fewer = omega (arith, f.fewer, ap length (l.looked_rest x));
    there = looked h x f ∙ ap (λ r. gone_to m h r true) (sym (l.looked_rest x));
    same = l.looked_ending x ∙ f.same;
  }

  -- a take at the end
  pub ended : (h x : H) → Reach m h x → m.rest x ≡ [] → m.taken x ≡ gone_to m h [] true
  ended h x f e = l.taken_empty x e ∙ (looked h x f ∙ ap (λ r. gone_to m h r true) e)

  -- a look, and then a take, is a take
  pub look_take : (x x₁ x₂ : H) → x₁ ≡ m.looked x → x₂ ≡ m.taken x₁ → x₂ ≡ m.taken x
  look_take x x₁ x₂ p q = q ∙ (ap m.taken p ∙ l.looked_taken x)

  -- a byte that was taken leaves fewer
  pub took_fewer : (x x' : H) (b : ℕ) → Ok b ≡ first (m.rest x) (m.ending x) → x' ≡ m.taken x → length (m.rest x') < length (m.rest x)
  took_fewer x x' b p t =
      let e : m.rest x ≡ b ∷ m.rest x' = byte_first (m.rest x) (m.ending x) b p ∙ ap (λ r. b ∷ r) (sym (l.taken_rest x) ∙ ap m.rest (sym t)) in
      omega (arith, ap length e)

  module _ {R : Type 0} (h x : H) (go : List ℕ → R) (w : R) where
    -- a turn that takes the byte b
    pub walk_took :
        (x' : H) (b : ℕ) (next : List ℕ → R) → Walk m h x go w → Ok b ≡ first (m.rest x) (m.ending x) → x' ≡ m.taken x
        → go (b ∷ m.rest x') ≡ next (m.rest x') → Walk m h x' next w
    walk_took x' b next k p t e = record {
      at = subst (Reach m h) (sym t) (reach_took h x b k.at p);
      on = sym e ∙ (sym (ap go (byte_first (m.rest x) (m.ending x) b p ∙ ap (λ r. b ∷ r) (sym (l.taken_rest x) ∙ ap m.rest (sym t)))) ∙ k.on);
    }

    -- where it stops behind the byte b, which was taken
    pub walk_stop_took :
        (x' : H) (b : ℕ) → Walk m h x go w → Ok b ≡ first (m.rest x) (m.ending x) → x' ≡ m.taken x
        → (go (b ∷ m.rest x') ≡ w) × (x' ≡ gone_to m h (m.rest x') false)
    walk_stop_took x' b k p t = (
      sym (ap go (byte_first (m.rest x) (m.ending x) b p ∙ ap (λ r. b ∷ r) (sym (l.taken_rest x) ∙ ap m.rest (sym t)))) ∙ k.on,
      subst (λ y. y ≡ gone_to m h (m.rest y) false) (sym t) (took h x b k.at p),
    )

    -- where it stops before the byte b, which was looked at
    pub walk_stop_looked :
        (x' : H) (b : ℕ) → Walk m h x go w → Ok b ≡ first (m.rest x) (m.ending x) → x' ≡ m.looked x
        → (go (b ∷ tail (m.rest x)) ≡ w) × (x' ≡ gone_to m h (b ∷ tail (m.rest x)) true)
    walk_stop_looked x' b k p t =
        let e : m.rest x ≡ b ∷ tail (m.rest x) = byte_first (m.rest x) (m.ending x) b p in
        (sym (ap go e) ∙ k.on, t ∙ (looked h x k.at ∙ ap (λ r. gone_to m h r true) e))

    -- where it stops at the end, by a look or by a take
    pub walk_stop_end :
        (x' : H) (f : Ending) → Walk m h x go w → Err f ≡ first (m.rest x) (m.ending x) → x' ≡ m.looked x
        → (go [] ≡ w) × (x' ≡ gone_to m h [] true) × (f ≡ m.ending h)
    walk_stop_end x' f k p t =
        let e = end_first (m.rest x) (m.ending x) f p in
        (sym (ap go e.0) ∙ k.on, t ∙ (looked h x k.at ∙ ap (λ r. gone_to m h r true) e.0), e.1 ∙ k.at.same)

    pub walk_stop_ended :
        (x' : H) (f : Ending) → Walk m h x go w → Err f ≡ first (m.rest x) (m.ending x) → x' ≡ m.taken x
        → (go [] ≡ w) × (x' ≡ gone_to m h [] true) × (f ≡ m.ending h)
    walk_stop_ended x' f k p t =
        let e = end_first (m.rest x) (m.ending x) f p in
        (sym (ap go e.0) ∙ k.on, t ∙ ended h x k.at e.0, e.1 ∙ k.at.same)

  pub walk_start : {R : Type 0} (h : H) (go : List ℕ → R) → Walk m h h go (go (m.rest h))
  walk_start h go = record { at = reach_start h; on = refl }

  -- a call that went from x to x' by a definition of its own: what it left is behind what there was, and where it only
  -- looked it made a look
  pub gone_on :
      (h : H) (a b : List ℕ) (p q : Bool) → Behind a (m.rest h) → Behind b a → (q ≡ false → length b < length a)
      → gone_to m (gone_to m h a p) b q ≡ gone_to m h b q
  gone_on h a b p q x y z =
      let r : m.rest (gone_to m h a p) ≡ a = gone_rest m l h a p x in
      let start : H = takes m (length (m.rest h) - length a) h in
      ap (λ r. peek m q (takes m (length r - length b) (peek m p start))) r
      ∙ (step (length a - length b) p q (λ e. omega (arith, z e)) start
      ∙ (ap (peek m q) (takes_takes m (length (m.rest h) - length a) (length a - length b) h)
      ∙ ap (λ j. peek m q (takes m j h)) (let k : (length (m.rest h) - length a) + (length a - length b) ≡ length (m.rest h) - length b = omega (arith, behind_fewer x, behind_fewer y) in k)))
    where
      again : (p q : Bool) → (q ≡ false → 0 < 0) → (s : H) → peek m q (peek m p s) ≡ peek m q s
      again false q z s = refl
      again true true z s = l.looked_twice s
      again true false z s = let no_way : ⊥ = omega (arith, z refl) in absurd no_way

      step : (k : ℕ) (p q : Bool) → (q ≡ false → 0 < k) → (s : H) → peek m q (takes m k (peek m p s)) ≡ peek m q (takes m k s)
      step zero p q z s = again p q z s
      step (suc k) p q z s = ap (λ s. peek m q (takes m k s)) (take_peek p s)

  -- the same with nothing asked of the second call: where it did nothing, the first one's look stands
  pub gone_any :
      (h : H) (a b : List ℕ) (p q : Bool) → Behind a (m.rest h) → Behind b a
      → gone_to m (gone_to m h a p) b q ≡ gone_to m h b (q || (p && eqb (length a) (length b)))
  gone_any h a b p q x y =
      let r : m.rest (gone_to m h a p) ≡ a = gone_rest m l h a p x in
      let start : H = takes m (length (m.rest h) - length a) h in
      let t = eqb (length a) (length b) in
      ap (λ r. peek m q (takes m (length r - length b) (peek m p start))) r
      ∙ (step (length a - length b) p q t
      (λ e. let k : length a ≡ length b = omega (arith, behind_fewer y) in eq-eqb (length a) (length b) k)
      (λ e. ne_eqb (length a) (length b) (λ k. omega arith)) start
      ∙ (ap (peek m (q || (p && t))) (takes_takes m (length (m.rest h) - length a) (length a - length b) h)
      ∙ ap (λ j. peek m (q || (p && t)) (takes m j h)) (let k : (length (m.rest h) - length a) + (length a - length b) ≡ length (m.rest h) - length b = omega (arith, behind_fewer x, behind_fewer y) in k)))
    where
      none : (p q : Bool) → (q || (p && false)) ≡ q
      none true true = refl
      none true false = refl
      none false true = refl
      none false false = refl

      step :
          (k : ℕ) (p q t : Bool) → (k ≡ 0 → t ≡ true) → (0 < k → t ≡ false) → (s : H)
          → peek m q (takes m k (peek m p s)) ≡ peek m (q || (p && t)) (takes m k s)
      step zero false true t z w s = refl
      step zero false false t z w s = refl
      step zero true true t z w s = l.looked_twice s
      step zero true false t z w s = ap (λ t. peek m t s) (sym (z refl))
      step (suc k) p q t z w s =
          let f : t ≡ false = w (omega arith) in
          ap (λ s. peek m q (takes m k s)) (take_peek p s)
          ∙ ap (λ u. peek m u (takes m k (m.taken s))) (sym (ap (λ t. q || (p && t)) f ∙ none p q))
