use Rattle.std.proofs.Common.{◌≡◌, ℕ, ◌+◌, ◌*◌, ◌<◌, ◌≤◌, true, false, cond, eqb, List, [], ◌∷◌, ◌++◌, length, Some, None, Result, Ok, Err, sym, refl, ap, ◌∙◌, arith, lit<, length-append}
use Rattle.std.proofs.lemmas.Bool.{lt-ltb, le-ltb}
use Rattle.std.proofs.lemmas.Bool.Decides.{nat_tests}
use Rattle.source.specs.declared.ending.Damage.TheVariants as damage
use Rattle.source.specs.declared.ending.Ending.{Ending}
use Rattle.source.specs.declared.ending.Ending.TheVariants.{Damaged}
use Rattle.source.specs.Bytes.{white}
use Rattle.source.specs.Model.{Model, first}
use Rattle.source.specs.Laws.{Lawful}
use Rattle.source.specs.Gone.{gone_to}
use Rattle.source.specs.Reads.{Read, Reads}
use Rattle.source.proofs.Walk.{Walk, walk_took}
use Rattle.source.proofs.Calls.{reads_took, walk_answer, walk_gone}
use Rattle.ascii.specs.declared.ascii85.Byte85.{Byte85}
use Rattle.ascii.specs.declared.ascii85.Group.{Group}
use Rattle.ascii.specs.declared.ascii85.Byte85.TheVariants.{Digit, White, Zero, Tilde, Stray}
use Rattle.decoding.specs.Step.{Own}
use Rattle.ascii.specs.Ascii85.{A85State, byte_85_of, value_on, value85, Below85, holding, a85_group, a85_zeros, a85_mark, a85_close, stopped, a85_turn, a85_at, Pending}
use Rattle.ascii.specs.Ascii85Sound.{mark_steady}

-- a turn behind ~: x was held at its start, and x' after a take
module _
    {H : Type 0} {m : Model H} (l : Lawful H m) {h x x' : H}
    (k : Walk m h x (λ r. a85_mark r (m.ending h)) (a85_mark (m.rest h) (m.ending h))) (t : x' ≡ m.taken x) {b : ℕ} (p : Ok b ≡ first (m.rest x) (m.ending x)) where
  -- what a byte that is not white answers
  abbrev pub marked : Read (Result (Unit {0}) Ending)
  marked = record { answer = cond (eqb b 62) (Ok tt) (Err (Damaged damage.Stray 0)); left = m.rest x'; peeked = false }

  pub mark_white : white b ≡ true → Walk m h x' (λ r. a85_mark r (m.ending h)) (a85_mark (m.rest h) (m.ending h))
  mark_white q =
      walk_took m l h x _ _ x' b (λ r. a85_mark r (m.ending h)) k p t
      (ap (λ c. cond c (a85_mark (m.rest x') (m.ending h)) marked) q)

  pub mark_stop : (o : Result (Unit {0}) Ending) → white b ≡ false → o ≡ cond (eqb b 62) (Ok tt) (Err (Damaged damage.Stray 0)) → Reads m a85_mark h o x'
  mark_stop o q e =
      reads_took m l a85_mark h x x' _ k t o marked e b p
      (sym (ap (λ c. cond c (a85_mark (m.rest x') (m.ending h)) marked) q)) refl refl

-- the loop over a group: some digits are pending, of which a group keeps what is needed
pub record Gathering {H : Type 0} (m : Model H) (h x : H) (group : Group) : Type 0 where
  pub digits : List ℕ
  pub pending : Pending digits group
  pub walk : Walk m h x (λ r. a85_at digits r (m.ending h)) (a85_at [] (m.rest h) (m.ending h))

value_push : (v : ℕ) (ds : List ℕ) (d : ℕ) → value_on v (ds ++ d ∷ []) ≡ value_on v ds * 85 + d
value_push v [] d = refl
value_push v (x ∷ ds) d = value_push (v * 85 + x) ds d

below_push : (ds : List ℕ) (d : ℕ) → Below85 ds → d < 85 → Below85 (ds ++ d ∷ [])
below_push [] d q h = (h, tt)
below_push (x ∷ ds) d q h = (q.0, below_push ds d q.1 h)

-- a digit is below 85
pub digit_below : (b d : ℕ) → Digit d ≡ byte_85_of b → d < 85
digit_below b d q = grind (arith, nat_tests)

-- three digits and one more fit
three_fit : (ds : List ℕ) → Below85 ds → length ds < 4 → value85 ds < 614125
three_fit [] q h = lit< tt
three_fit (a ∷ []) q h = omega (arith, q.0)
three_fit (a ∷ b ∷ []) q h = omega (arith, q.0, q.1.0)
three_fit (a ∷ b ∷ c ∷ []) q h = omega (arith, q.0, q.1.0, q.1.1.0)
three_fit (a ∷ b ∷ c ∷ d ∷ ds) q h = absurd (omega arith)

pub value_fits : {H : Type 0} {m : Model H} {h x : H} {group : Group} → Gathering m h x group → (group.count ≡ 4 → ⊥) → group.value < 614125
value_fits k n =
    let p = k.pending in
    let h : length k.digits < 4 = omega (arith, p.many, p.few, n) in
    let z : value85 k.digits < 614125 = three_fit k.digits p.low h in
    omega (arith, p.worth)

-- a turn of the loop: x was held at its start, and x' after a take
module _
    {H : Type 0} {m : Model H} (l : Lawful H m) {h x x' : H} {group : Group}
    (k : Gathering m h x group) (t : x' ≡ m.taken x) {b : ℕ} (p : Ok b ≡ first (m.rest x) (m.ending x)) where
  -- what the byte does, by what it is
  abbrev turn : Byte85 → Read (Own A85State)
  turn u = a85_turn u k.digits (m.rest x') (m.ending h) (λ ds. a85_at ds (m.rest x') (m.ending h))

  pub group_white : White ≡ byte_85_of b → Gathering m h x' group
  group_white q = record {
    digits = k.digits;
    pending = k.pending;
    walk = walk_took m l h x _ _ x' b (λ r. a85_at k.digits r (m.ending h)) k.walk p t (sym (ap turn q));
  }

  pub group_digit : {d : ℕ} → Digit d ≡ byte_85_of b → (group.count ≡ 4 → ⊥) → {more : Group} → more ≡ record { count = group.count + 1; value = group.value * 85 + d } → Gathering m h x' more
  group_digit {d} q n is =
      let g = k.pending in
      let few : length k.digits < 4 = omega (arith, g.many, g.few, n) in
      record {
        digits = k.digits ++ d ∷ [];
        pending = record {
          many = ap (λ (g : Group). g.count) is ∙ omega (arith, g.many, length-append k.digits (d ∷ []));
          worth = ap (λ (g : Group). g.value) is ∙ (ap (λ v. v * 85 + d) g.worth ∙ sym (value_push 0 k.digits d));
          few = omega (arith, g.many, ap (λ (g : Group). g.count) is);
          low = below_push k.digits d g.low (digit_below b d q);
        };
        walk =
            walk_took m l h x _ _ x' b (λ r. a85_at (k.digits ++ d ∷ []) r (m.ending h)) k.walk p t
            (sym (ap turn q) ∙ ap (λ c. cond c (a85_at (k.digits ++ d ∷ []) (m.rest x') (m.ending h)) (stopped (a85_group 4 (value85 (k.digits ++ d ∷ [])) None) (m.rest x'))) (lt-ltb (length k.digits) 4 few));
      }

  -- a turn that makes something
  group_stop : (u : Byte85) (own : Own A85State) → u ≡ byte_85_of b → stopped own (m.rest x') ≡ turn u → Reads m (a85_at []) h own x'
  group_stop u own q e =
      reads_took m l (a85_at []) h x x' _ k.walk t own (stopped own (m.rest x')) refl b p (e ∙ ap turn q) refl refl

  pub group_whole : {d : ℕ} {own : Own A85State} → Digit d ≡ byte_85_of b → group.count ≡ 4 → own ≡ a85_group 4 (group.value * 85 + d) None → Reads m (a85_at []) h own x'
  group_whole {d} {own} q n e =
      let g = k.pending in
      let all : 4 ≤ length k.digits = omega (arith, g.many) in
      group_stop (Digit d) own q
      (ap (λ o. stopped o (m.rest x')) (e ∙ ap (λ v. a85_group 4 v None) (ap (λ v. v * 85 + d) g.worth ∙ sym (value_push 0 k.digits d)))
      ∙ sym (ap (λ c. cond c (a85_at (k.digits ++ d ∷ []) (m.rest x') (m.ending h)) (stopped (a85_group 4 (value85 (k.digits ++ d ∷ [])) None) (m.rest x'))) (le-ltb (length k.digits) 4 all)))

  pub group_zero : {own : Own A85State} → Zero ≡ byte_85_of b → own ≡ a85_zeros k.digits → Reads m (a85_at []) h own x'
  group_zero {own} q e = group_stop Zero own q (ap (λ o. stopped o (m.rest x')) e)

  pub group_stray : {own : Own A85State} → Stray ≡ byte_85_of b → own ≡ holding [] (Some (Damaged damage.Stray 0)) → Reads m (a85_at []) h own x'
  group_stray {own} q e = group_stop Stray own q (ap (λ o. stopped o (m.rest x')) e)

  -- a call behind ~
  pub group_close : {own : Own A85State} {x₂ : H} → Tilde ≡ byte_85_of b → Reads m (a85_close k.digits) x' own x₂ → Reads m (a85_at []) h own x₂
  group_close {own} {x₂} q y =
      let w : Walk m h x' (λ r. a85_close k.digits r (m.ending h)) (a85_at [] (m.rest h) (m.ending h))
      = walk_took m l h x _ _ x' b (λ r. a85_close k.digits r (m.ending h)) k.walk p t (sym (ap turn q)) in
      record {
        answer = walk_answer m l (a85_close k.digits) h x' own x₂ _ _ mark_steady w y ∙ ap (λ (s : Read (Own A85State)). s.answer) w.on;
        after = walk_gone m l (a85_close k.digits) h x' own x₂ _ _ mark_steady w y ∙ ap (λ (s : Read (Own A85State)). gone_to m h s.left s.peeked) w.on;
      }
