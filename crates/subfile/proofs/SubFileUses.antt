use Rattle.std.proofs.Common.{◌≡◌, ℕ, suc, ◌+◌, ◌<◌, ◌≤◌, Bool, true, false, cond, eqb, List, [], ◌∷◌, ◌++◌, length, take, drop, Some, None, Ok, sym, refl, ap, ◌∙◌, ap₂, arith, length-append, length-take}
use Rattle.source.specs.declared.ending.Ending.{Ending}
use Rattle.source.specs.declared.ending.Ending.TheVariants.{Clean}
use Rattle.source.specs.Model.{Model, first}
use Rattle.source.specs.Laws.{Lawful}
use Rattle.source.specs.Gone.{gone_to}
use Rattle.source.specs.Reads.{Read, Reads}
use Rattle.source.proofs.Walk.{Walk, walk_took, walk_stop_took}
use Rattle.subfile.specs.declared.mark.Mark.{Mark}
use Rattle.subfile.specs.declared.subfile.Match.{Match}
use Rattle.subfile.specs.declared.subfile.Match.TheVariants.{Starts, Equals, Fails}
use Rattle.subfile.specs.Marks.{mark_of}
use Rattle.decoding.specs.Step.{Holds, Own, makes}
use Rattle.subfile.specs.SubFile.{SubState, judged, counted, last_ends, instance_at, instance_own, first_at, cut_at, mark_turn, mark_at, mark_from}

-- a mark has 16 bytes at the most
pub mark_short : (m : Mark) → length (mark_of m) ≤ 16
unfolding mark_of
mark_short m = omega (arith, length-take m.len m.bytes)

-- a proper start of a mark is shorter
pub starts_shorter : (mark held : List ℕ) → Starts ≡ judged mark held → length held < length mark
starts_shorter [] [] e = let z : ◌≡◌ {A = ℕ} 0 1 = cc in omega arith
starts_shorter [] (x ∷ held) e = let z : ◌≡◌ {A = ℕ} 0 1 = cc in omega arith
starts_shorter (m ∷ mark) [] e = omega arith
starts_shorter (m ∷ mark) (x ∷ held) e = by (eqb m x) (λ q. starts_shorter mark held q) e
  where
    by : (t : Bool) → (Starts ≡ judged mark held → length held < length mark) → Starts ≡ cond t (judged mark held) Fails → suc (length held) < suc (length mark)
    by true f e = let q : length held < length mark = f e in omega arith
    by false f e = let z : ◌≡◌ {A = ℕ} 0 1 = cc in omega arith

-- how a step goes on where the bytes held stand to the mark as said
pub at_judged :
    (k : SubState) (c rest : List ℕ) (e : Ending) (t : Match) → t ≡ judged k.mark c
    → ((on : Read (Own SubState)) → mark_turn t k c rest on ≡ mark_turn t k c rest (cut_at k c e))
    → mark_turn t k c rest (cut_at k c e) ≡ mark_at k c rest e
at_judged k c [] e t q f = ap (λ t. mark_turn t k c [] (cut_at k c e)) q
at_judged k c (b ∷ bs) e t q f =
    sym (f (mark_at k (c ++ b ∷ []) bs e)) ∙ ap (λ t. mark_turn t k c (b ∷ bs) (mark_at k (c ++ b ∷ []) bs e)) q

-- where an instance leaves the one below
abbrev instance_by : Bool → SubState → List ℕ → List ℕ → Read (Own SubState)
instance_by t k c left = cond t (makes k [] (Some Clean) left) (makes (counted k) c (last_ends k.count) left)

instance_parts :
    (t : Bool) (k : SubState) (c left : List ℕ)
    → ((instance_by t k c []).answer ≡ (instance_by t k c left).answer) × ((instance_by t k c left).left ≡ left) × ((instance_by t k c left).peeked ≡ false)
instance_parts true k c left = (refl, refl, refl)
instance_parts false k c left = (refl, refl, refl)

-- what is held once the first byte was released
pub released :
    (f : Holds SubState) (ready c : List ℕ) → ready ≡ take 1 f.compared → c ≡ drop 1 f.compared
    → ◌≡◌ {A = Own SubState} (record { ready = ready; compared = c; kind = f.kind; ended = None }) (first_at f.kind f.compared []).answer
released f ready c p q = ap₂ (λ (r c : List ℕ). let o : Own SubState = record { ready = r; compared = c; kind = f.kind; ended = None } in o) p q

-- the invariant of the loop: f₀ was held at its start, and f now, in n places; h and x are what is held below
pub record Comparing {H : Type 0} (m : Model H) (h x : H) (f₀ f : Holds SubState) (n : ℕ) : Type 0 where
  pub walk : Walk m h x (λ r. mark_at f.kind f.compared r (m.ending h)) (mark_from f₀ (m.rest h) (m.ending h))
  pub there : x ≡ gone_to m h (m.rest x) false
  pub places : n ≡ length f.compared

-- a proper start of a mark leaves room for one more byte
pub hold_fits :
    {H : Type 0} {m : Model H} {h x : H} {f₀ f : Holds SubState} {n : ℕ} {mark held : List ℕ} → Comparing m h x f₀ f n
    → mark ≡ f.kind.mark → held ≡ f.compared → Starts ≡ judged mark held → length f.kind.mark ≤ 16 → n < 16
hold_fits {f = f} k is holds q short =
    let z : length f.compared < length f.kind.mark = starts_shorter f.kind.mark f.compared (q ∙ ap₂ judged is holds) in
    omega (arith, k.places, short)

module _ {H : Type 0} {m : Model H} (l : Lawful H m) where
  -- the bytes held were compared with the mark
  module _
      {h x : H} {f₀ f : Holds SubState} {n : ℕ} (k : Comparing m h x f₀ f n)
      {mark held : List ℕ} (is : mark ≡ f.kind.mark) (holds : held ≡ f.compared) where
    told : {t : Match} → t ≡ judged mark held → t ≡ judged f.kind.mark f.compared
    told q = q ∙ ap₂ judged is holds

    -- a byte was taken and is held
    pub compare_on :
        {x' : H} {b : ℕ} {ready c : List ℕ} {n' : ℕ} → Starts ≡ judged mark held → Ok b ≡ first (m.rest x) (m.ending x) → x' ≡ m.taken x
        → c ≡ f.compared ++ b ∷ [] → n' ≡ n + 1 → Comparing m h x' f₀ (record { ready = ready; compared = c; kind = f.kind }) n'
    compare_on {x'} {b} {ready} {c} {n'} q p t e i = record {
      walk =
          walk_took m l h x _ _ x' b (λ r. mark_at f.kind c r (m.ending h)) k.walk p t
          (sym (ap (λ t. mark_turn t f.kind f.compared (b ∷ m.rest x') (mark_at f.kind (f.compared ++ b ∷ []) (m.rest x') (m.ending h))) (told q))
          ∙ ap (λ c. mark_at f.kind c (m.rest x') (m.ending h)) (sym e));
      there = (walk_stop_took m l h x _ _ x' b k.walk p t).1;
      places = i ∙ (ap (λ j. j + 1) k.places ∙ (let z : length f.compared + 1 ≡ length (f.compared ++ b ∷ []) = sym (length-append f.compared (b ∷ [])) in z ∙ sym (ap length e)));
    }

    -- the contract speaks of the bytes compared before they were moved
    module _ {c₀ : List ℕ} (same : f₀.compared ≡ c₀) where
      -- the step stops without taking one more
      stop_here :
          (s : Read (Own SubState)) (r : Own SubState) → s ≡ mark_at f.kind f.compared (m.rest x) (m.ending h)
          → r ≡ s.answer → s.left ≡ m.rest x → s.peeked ≡ false → Reads m (mark_at f₀.kind c₀) h r x
      stop_here s r q a i p =
          let e : s ≡ mark_at f₀.kind c₀ (m.rest h) (m.ending h) = q ∙ (k.walk.on ∙ ap (λ c. mark_at f₀.kind c (m.rest h) (m.ending h)) same) in
          record {
            answer = a ∙ ap (λ (s : Read (Own SubState)). s.answer) e;
            after = k.there ∙ (sym (ap₂ (gone_to m h) i p) ∙ ap (λ (s : Read (Own SubState)). gone_to m h s.left s.peeked) e);
          }

      pub compare_equals : {r : Own SubState} → Equals ≡ judged mark held → r ≡ instance_own f → Reads m (mark_at f₀.kind c₀) h r x
      compare_equals {r} q a =
          let z = instance_parts (eqb f.kind.count 0) f.kind f.compared (m.rest x) in
          stop_here (instance_at f.kind f.compared (m.rest x)) r
          (at_judged f.kind f.compared (m.rest x) (m.ending h) Equals (told q) (λ on. refl)) (a ∙ z.0) z.1 z.2

      pub compare_fails :
          {ready c : List ℕ} → Fails ≡ judged mark held → ready ≡ take 1 f.compared → c ≡ drop 1 f.compared
          → Reads m (mark_at f₀.kind c₀) h (record { ready = ready; compared = c; kind = f.kind; ended = None }) x
      compare_fails {ready} {c} q r d =
          stop_here (first_at f.kind f.compared (m.rest x)) _
          (at_judged f.kind f.compared (m.rest x) (m.ending h) Fails (told q) (λ on. refl)) (released f ready c r d) refl refl
