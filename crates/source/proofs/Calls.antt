use Rattle.std.proofs.Common.{◌≡◌, ℕ, Result, Ok, Err, ◌-◌, ◌<◌, ◌≤◌, Bool, true, false, List, [], ◌∷◌, ◌++◌, length, take, drop, sym, refl, ap, ◌∙◌, ap₂, arith}
use Rattle.std.proofs.lemmas.List.{take-append-drop}
use Rattle.source.specs.declared.ending.Ending.{Ending}
use Rattle.source.specs.Model.{Model, first, tail}
use Rattle.source.specs.Laws.{Lawful}
use Rattle.source.specs.Gone.{takes, gone_to, Behind}
use Rattle.source.specs.Reads.{Read, Reads}
use Rattle.source.proofs.Going.{behind_self, behind_trans, behind_fewer, gone_rest, gone_ending, peek_rest, takes_rest}
use Rattle.source.proofs.Walk.{Reach, Walk, reach_start, took, looked, ended, gone_on, walk_stop_took, walk_stop_ended}

-- what is left stands behind what was taken; what took nothing looked
pub record Steady (rest left : List ℕ) (peeked : Bool) : Type 0 where
  pub behind : Behind left rest
  pub moved : peeked ≡ false → length left < length rest

-- a take and a look as calls
abbrev pub take_of : List ℕ → Ending → Read (Result ℕ Ending)
take_of [] e = record { answer = Err e; left = []; peeked = true }
take_of (b ∷ bs) e = record { answer = Ok b; left = bs; peeked = false }

abbrev pub look_of : List ℕ → Ending → Read (Result ℕ Ending)
look_of rest e = record { answer = first rest e; left = rest; peeked = true }

pub no_peek : {C : Type 0} → ◌≡◌ {A = Bool} true false → C
no_peek e = let z : ◌≡◌ {A = ℕ} 0 1 = cc in let no_way : ⊥ = omega arith in absurd no_way

pub steady_here : (rest : List ℕ) → Steady rest rest true
steady_here rest = record { behind = behind_self rest; moved = λ e. no_peek e }

pub steady_next : (b : ℕ) (rest : List ℕ) → Steady (b ∷ rest) rest false
steady_next b rest = record { behind = record { front = b ∷ []; joined = refl }; moved = λ e. omega arith }

pub steady_then : {a b c : List ℕ} {p q : Bool} → Steady a b p → Steady b c q → Steady a c q
steady_then x y = record {
  behind = behind_trans y.behind x.behind;
  moved = λ e. omega (arith, y.moved e, behind_fewer x.behind);
}

pub steady_take : (rest : List ℕ) (e : Ending) → Steady rest (take_of rest e).left (take_of rest e).peeked
steady_take [] e = steady_here []
steady_take (b ∷ bs) e = steady_next b bs

-- a byte that a take answered stood first
pub take_first : (rest : List ℕ) (e : Ending) (b : ℕ) → Ok b ≡ (take_of rest e).answer → rest ≡ b ∷ (take_of rest e).left
take_first [] e b p = let z : ◌≡◌ {A = ℕ} 0 1 = cc in let no_way : ⊥ = omega arith in absurd no_way
take_first (x ∷ rest) e b p = let q : b ≡ x = cc in ap (λ y. y ∷ rest) (sym q)

-- an end that a take answered is the ending
pub take_end : (rest : List ℕ) (e f : Ending) → Err f ≡ (take_of rest e).answer → (rest ≡ []) × (f ≡ e)
take_end [] e f p = (refl, cc)
take_end (x ∷ rest) e f p = let z : ◌≡◌ {A = ℕ} 0 1 = cc in let no_way : ⊥ = omega arith in absurd no_way

module _ {H : Type 0} (m : Model H) (l : Lawful H m) where
  pub reads_take : (h : H) (r : Result ℕ Ending) (h' : H) → r ≡ first (m.rest h) (m.ending h) → h' ≡ m.taken h → Reads m take_of h r h'
  reads_take h r h' a t = record { answer = a ∙ at_first (m.rest h); after = t ∙ at_after (m.rest h) refl }
    where
      at_first : (r : List ℕ) → first r (m.ending h) ≡ (take_of r (m.ending h)).answer
      at_first [] = refl
      at_first (b ∷ bs) = refl

      at_after : (r : List ℕ) → m.rest h ≡ r → m.taken h ≡ gone_to m h (take_of r (m.ending h)).left (take_of r (m.ending h)).peeked
      at_after [] e = ended m l h h (reach_start m l h) e
      at_after (b ∷ bs) e =
          took m l h h b (reach_start m l h) (sym (ap (λ r. first r (m.ending h)) e))
          ∙ ap (λ r. gone_to m h r false) (l.taken_rest h ∙ ap tail e)

  pub reads_look : (h : H) (r : Result ℕ Ending) (h' : H) → r ≡ first (m.rest h) (m.ending h) → h' ≡ m.looked h → Reads m look_of h r h'
  reads_look h r h' a t = record { answer = a; after = t ∙ looked m l h h (reach_start m l h) }

  module _ {A : Type 0} (f : List ℕ → Ending → Read A) (h : H) (r : A) (h' : H) where
    pub reads_rest : Reads m f h r h' → Steady (m.rest h) (f (m.rest h) (m.ending h)).left (f (m.rest h) (m.ending h)).peeked → m.rest h' ≡ (f (m.rest h) (m.ending h)).left
    reads_rest k s = ap m.rest k.after ∙ gone_rest m l h _ _ s.behind

    pub reads_ending : Reads m f h r h' → m.ending h' ≡ m.ending h
    reads_ending k = ap m.ending k.after ∙ gone_ending m l h _ _

    -- one call after another
    pub reads_then :
        {B : Type 0} (g : List ℕ → Ending → Read B) (r₂ : B) (h₂ : H)
        → Steady (m.rest h) (f (m.rest h) (m.ending h)).left (f (m.rest h) (m.ending h)).peeked
        → ((rest : List ℕ) (e : Ending) → Steady rest (g rest e).left (g rest e).peeked)
        → Reads m f h r h' → Reads m g h' r₂ h₂ → Reads m (λ rest e. g (f rest e).left e) h r₂ h₂
    reads_then g r₂ h₂ s t x y =
        let a = m.ending h in
        let b = (f (m.rest h) a).left in
        let p : m.rest h' ≡ b = reads_rest x s in
        let q : m.ending h' ≡ a = reads_ending x in
        record {
          answer = y.answer ∙ ap₂ (λ r e. (g r e).answer) p q;
          after =
              y.after
              ∙ (ap₂ (λ r e. gone_to m h' (g r e).left (g r e).peeked) p q
              ∙ (ap (λ z. gone_to m z (g b a).left (g b a).peeked) x.after
              ∙ gone_on m l h b (g b a).left (f (m.rest h) a).peeked (g b a).peeked s.behind (t b a).behind (t b a).moved));
        }

    -- another definition that says the same
    pub reads_as :
        {B : Type 0} (g : List ℕ → Ending → Read B) (r₂ : B) (s : Read B) → Reads m f h r h' → s ≡ g (m.rest h) (m.ending h) → r₂ ≡ s.answer
        → (f (m.rest h) (m.ending h)).left ≡ s.left → (f (m.rest h) (m.ending h)).peeked ≡ s.peeked → Reads m g h r₂ h'
    reads_as g r₂ s k e a b c = record {
      answer = a ∙ ap (λ (s : Read _). s.answer) e;
      after = k.after ∙ (ap₂ (gone_to m h) b c ∙ ap (λ (s : Read _). gone_to m h s.left s.peeked) e);
    }

  pub reach_behind : (h x : H) → Reach m h x → Behind (m.rest x) (m.rest h)
  reach_behind h x k =
      let n = length (m.rest h) - length (m.rest x) in
      let e : m.rest x ≡ drop n (m.rest h) = ap m.rest k.there ∙ (peek_rest m l k.peeked (takes m n h) ∙ takes_rest m l n h) in
      record { front = take n (m.rest h); joined = sym (take-append-drop n (m.rest h)) ∙ ap (λ r. take n (m.rest h) ++ r) (sym e) }

  -- a turn of a loop that makes a call
  module _
      {A R : Type 0} (f : List ℕ → Ending → Read A) (h x : H) (r : A) (x' : H) (go : List ℕ → R) (w : R)
      (s : (rest : List ℕ) (e : Ending) → Steady rest (f rest e).left (f rest e).peeked)
      (k : Walk m h x go w) (y : Reads m f x r x') where
    pub walk_answer : r ≡ (f (m.rest x) (m.ending h)).answer
    walk_answer = y.answer ∙ ap (λ e. (f (m.rest x) e).answer) k.at.same

    pub walk_gone : x' ≡ gone_to m h (f (m.rest x) (m.ending h)).left (f (m.rest x) (m.ending h)).peeked
    walk_gone =
        let a = f (m.rest x) (m.ending h) in
        y.after
        ∙ (ap (λ e. gone_to m x (f (m.rest x) e).left (f (m.rest x) e).peeked) k.at.same
        ∙ (ap (λ z. gone_to m z a.left a.peeked) k.at.there
        ∙ gone_on m l h (m.rest x) a.left k.at.peeked a.peeked (reach_behind h x k.at) (s (m.rest x) (m.ending h)).behind (s (m.rest x) (m.ending h)).moved))

    pub walk_left : m.rest x' ≡ (f (m.rest x) (m.ending h)).left
    walk_left =
        ap m.rest walk_gone
        ∙ gone_rest m l h _ _ (behind_trans (s (m.rest x) (m.ending h)).behind (reach_behind h x k.at))

    pub walk_on : (next : List ℕ → R) → go (m.rest x) ≡ next (f (m.rest x) (m.ending h)).left → Walk m h x' next w
    walk_on next e = record {
      at = record {
        peeked = (f (m.rest x) (m.ending h)).peeked;
        fewer =
            let a : length (m.rest x') ≤ length (m.rest x) = omega (arith, ap length walk_left, behind_fewer (s (m.rest x) (m.ending h)).behind) in
            let b : length (m.rest x) ≤ length (m.rest h) = k.at.fewer in
            omega arith;
        there = walk_gone ∙ ap (λ q. gone_to m h q (f (m.rest x) (m.ending h)).peeked) (sym walk_left);
        same = ap m.ending walk_gone ∙ gone_ending m l h _ _;
      };
      on = ap next walk_left ∙ (sym e ∙ k.on);
    }

  -- where a loop that takes returns: behind the byte b, or at the end; s is what the definition says there
  module _
      {A : Type 0} (f : List ℕ → Ending → Read A) (h x x' : H) (go : List ℕ → Read A)
      (k : Walk m h x go (f (m.rest h) (m.ending h))) (t : x' ≡ m.taken x) (r : A) (s : Read A) (is : r ≡ s.answer) where
    reads_by : s ≡ f (m.rest h) (m.ending h) → x' ≡ gone_to m h s.left s.peeked → Reads m f h r x'
    reads_by q g = record {
      answer = is ∙ ap (λ (s : Read A). s.answer) q;
      after = g ∙ ap (λ (s : Read A). gone_to m h s.left s.peeked) q;
    }

    pub reads_took :
        (b : ℕ) → Ok b ≡ first (m.rest x) (m.ending x) → s ≡ go (b ∷ m.rest x') → m.rest x' ≡ s.left → false ≡ s.peeked → Reads m f h r x'
    reads_took b p e a c =
        let stop = walk_stop_took m l h x go (f (m.rest h) (m.ending h)) x' b k p t in
        reads_by (e ∙ stop.0) (stop.1 ∙ ap₂ (gone_to m h) a c)

    pub reads_ended :
        (z : Ending) → Err z ≡ first (m.rest x) (m.ending x) → s ≡ go [] → [] ≡ s.left → true ≡ s.peeked → Reads m f h r x'
    reads_ended z p e a c =
        let stop = walk_stop_ended m l h x go (f (m.rest h) (m.ending h)) x' z k p t in
        reads_by (e ∙ stop.0) (stop.1 ∙ ap₂ (gone_to m h) a c)
