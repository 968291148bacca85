use Rattle.std.proofs.Common.{◌≡◌, ℕ, ◌+◌, ◌<◌, ◌≤◌, Bool, true, false, cond, eqb, List, [], ◌∷◌, ◌++◌, length, None, Result, Ok, Err, sym, refl, ap, ◌∙◌, append_assoc, append-nil, arith, length-append}
use Rattle.std.proofs.lemmas.Bool.{lt-ltb}
use Rattle.std.proofs.lemmas.Bool.Decides.{nat_tests}
use Rattle.source.specs.declared.ending.Damage.TheVariants as damage
use Rattle.source.specs.declared.ending.Ending.{Ending}
use Rattle.source.specs.declared.ending.Ending.TheVariants.{Damaged}
use Rattle.source.specs.Bytes.{white, unspaced}
use Rattle.source.specs.Reads.{Read}
use Rattle.ascii.specs.declared.ascii85.Byte85.TheVariants.{Digit, White}
use Rattle.decoding.specs.Step.{Own}
use Rattle.ascii.specs.Ascii85.{A85State, byte_85_of, value85, Below85, a85_group, a85_last, a85_mark, a85_judged, stopped, a85_turn, a85_at}
use Rattle.ascii.specs.Ascii85Law.{figures}

white_is : (b : ℕ) → white b ≡ true → byte_85_of b ≡ White
white_is b h = grind (arith, nat_tests)

pub figure_is : (d : ℕ) → d < 85 → byte_85_of (33 + d) ≡ Digit d
figure_is d h = grind (arith, nat_tests)

-- behind some white bytes and the byte f: what f does, with t spaced behind it
pub record Passed (s : List ℕ) (f : ℕ) (t : List ℕ) : Type 0 where
  pub behind : List ℕ
  pub spaced : unspaced behind ≡ t
  pub on :
      (ds r : List ℕ) (e : Ending) → a85_at ds (s ++ r) e ≡ a85_turn (byte_85_of f) ds (behind ++ r) e (λ ds. a85_at ds (behind ++ r) e)

pub passed : (s : List ℕ) (f : ℕ) (t : List ℕ) → unspaced s ≡ f ∷ t → Passed s f t
passed [] f t q = absurd (cc)
passed (b ∷ s) f t q = by (white b) refl (λ k. passed s f t k) q
  where
    by : (w : Bool) → white b ≡ w → (unspaced s ≡ f ∷ t → Passed s f t) → cond w (unspaced s) (b ∷ unspaced s) ≡ f ∷ t → Passed (b ∷ s) f t
    by true w again q =
        let k = again q in
        record {
          behind = k.behind;
          spaced = k.spaced;
          on = λ ds r e. ap (λ u. a85_turn u ds (s ++ r) e (λ ds. a85_at ds (s ++ r) e)) (white_is b w) ∙ k.on ds r e;
        }
    by false w again q =
        let same : b ≡ f = cc in
        record { behind = s; spaced = cc; on = λ ds r e. ap (λ u. a85_turn (byte_85_of u) ds (s ++ r) e (λ ds. a85_at ds (s ++ r) e)) same }

-- behind some digits that go on with a group
pub record Gone (ds : List ℕ) (s : List ℕ) (new t : List ℕ) : Type 0 where
  pub behind : List ℕ
  pub spaced : unspaced behind ≡ t
  pub on : (r : List ℕ) (e : Ending) → a85_at ds (s ++ r) e ≡ a85_at (ds ++ new) (behind ++ r) e

pub gone : (new ds s t : List ℕ) → Below85 new → length ds + length new ≤ 4 → unspaced s ≡ figures new ++ t → Gone ds s new t
gone [] ds s t q h e = record { behind = s; spaced = e; on = λ r e. ap (λ ds. a85_at ds (s ++ r) e) (sym (append-nil ds)) }
gone (d ∷ new) ds s t q h e =
    let k = passed s (33 + d) (figures new ++ t) e in
    let few : length ds < 4 = omega arith in
    let more : length (ds ++ d ∷ []) + length new ≤ 4 = omega (arith, length-append ds (d ∷ [])) in
    let g = gone new (ds ++ d ∷ []) k.behind t q.1 more k.spaced in
    record {
      behind = g.behind;
      spaced = g.spaced;
      on = λ r e.
          k.on ds r e
          ∙ (ap (λ u. a85_turn u ds (k.behind ++ r) e (λ ds. a85_at ds (k.behind ++ r) e)) (figure_is d q.0)
          ∙ (ap (λ c. cond c (a85_at (ds ++ d ∷ []) (k.behind ++ r) e) (stopped (a85_group 4 (value85 (ds ++ d ∷ [])) None) (k.behind ++ r))) (lt-ltb (length ds) 4 few)
          ∙ (g.on r e ∙ ap (λ ds. a85_at ds (g.behind ++ r) e) (append_assoc ds (d ∷ []) new))));
    }

-- what stands behind ~
pub closed : (s r : List ℕ) (e : Ending) → unspaced s ≡ [] → a85_mark (s ++ 62 ∷ r) e ≡ record { answer = Ok tt; left = r; peeked = false }
closed [] r e q = refl
closed (b ∷ s) r e q = by (white b) refl (λ k. closed s r e k) q
  where
    by :
        (w : Bool) → white b ≡ w → (unspaced s ≡ [] → a85_mark (s ++ 62 ∷ r) e ≡ record { answer = Ok tt; left = r; peeked = false })
        → cond w (unspaced s) (b ∷ unspaced s) ≡ [] → a85_mark (b ∷ (s ++ 62 ∷ r)) e ≡ record { answer = Ok tt; left = r; peeked = false }
    by true w again q =
        ap (λ c. cond c (a85_mark (s ++ 62 ∷ r) e) (record { answer = cond (eqb b 62) (Ok tt) (Err (Damaged damage.Stray 0)); left = s ++ 62 ∷ r; peeked = false })) w
        ∙ again q
    by false w again q = absurd (cc)

-- the last digits, ~ and >
pub ended : (ds s r : List ℕ) (e : Ending) → unspaced s ≡ 126 ∷ [] → a85_at ds (s ++ 62 ∷ r) e ≡ stopped (a85_last ds) r
ended ds s r e q =
    let k = passed s 126 [] q in
    k.on ds (62 ∷ r) e
    ∙ ap (λ (m : Read (Result (Unit {0}) Ending)). let z : Read (Own A85State) = record { answer = a85_judged ds m.answer; left = m.left; peeked = m.peeked } in z)
    (closed k.behind r e k.spaced)
