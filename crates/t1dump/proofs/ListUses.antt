use Rattle.std.proofs.Common.{◌≡◌, ℕ, zero, suc, ◌<◌, ◌≤◌, Bool, true, false, cond, List, [], ◌∷◌, ◌++◌, length, Result, sym, refl, ap, ◌∙◌, subst, append_assoc, arith}
use Rattle.std.proofs.lemmas.List.{append-nil}
use Rattle.std.proofs.lemmas.Bool.{cond-true, cond-false, true≢false}
use Rattle.source.specs.declared.ending.Ending.{Ending}
use Rattle.source.specs.declared.ending.Ending.TheVariants.{Clean, Damaged}
use Rattle.source.specs.Model.{Model}
use Rattle.source.specs.Laws.{Lawful}
use Rattle.source.specs.Gone.{gone_to}
use Rattle.source.specs.Reads.{Read, Reads}
use Rattle.source.proofs.Walk.{Walk, reach_start}
use Rattle.source.proofs.Calls.{Steady, walk_left, walk_on}
use Rattle.scanner.specs.declared.failure.Failure.{Failure}
use Rattle.scanner.specs.declared.kinds.Token.{Token}
use Rattle.scanner.specs.Scan.{Scan}
use Rattle.scanner.specs.Spaces.{skipped}
use Rattle.scanner.specs.Tokens.{ended_token, unfit, token_of}
use Rattle.scanner.proofs.AnswerLawful.{answer_law}
use Rattle.scanner.proofs.Steadiness.{steady_token}
use Rattle.t1dump.specs.Listed.{Listed}
use Rattle.t1dump.specs.LinesLaw.{LinesLaw}
use Rattle.t1dump.specs.Texts.{answer_text, goes_on, lines_at, lines_of}

-- the loop

-- a token as a call that reads
abbrev token_read : ℕ → List ℕ → Ending → Read (Result Token Failure)
token_read room rest e = record { answer = (token_of room rest e).answer; left = (token_of room rest e).left; peeked = (token_of room rest e).peeked }

ended_stops : (e : Ending) → goes_on (ended_token e) ≡ false
ended_stops Clean = refl
ended_stops (Damaged d n) = refl

-- a token that is not the last takes a byte
falls :
    (room : ℕ) → unfit room ≡ false → (rest : List ℕ) (e : Ending) → goes_on (token_of room rest e).answer ≡ true
    → length (token_of room rest e).left < length rest
falls room ok rest e q = at (skipped false rest) refl
  where
    at : (s : List ℕ) → skipped false rest ≡ s → length (token_of room rest e).left < length rest
    at [] p =
        let stop : goes_on (token_of room rest e).answer ≡ false = ap (λ (s : Scan _). goes_on s.answer) (answer_law.ends room rest e ok p) ∙ ended_stops e in
        absurd (true≢false (sym q ∙ stop))
    at (b ∷ bs) p = answer_law.moves room rest e ok (let k : 0 < length (skipped false rest) = omega (arith, ap length p) in k)

-- the invariant: what is printed, and the lines of what is left, are the lines of the whole
pub record Listing {H : Type 0} (room : ℕ) (m : Model H) (h x : H) (before out : List ℕ) : Type 0 where
  pub fuel : ℕ
  pub enough : length (m.rest x) < fuel
  pub walk : Walk m h x (λ r. out ++ lines_at fuel room r (m.ending h)) (before ++ lines_of room (m.rest h) (m.ending h))

pub listing_start : {H : Type 0} (room : ℕ) (m : Model H) (l : Lawful H m) (h : H) (out : List ℕ) → Listing room m h h out out
listing_start room m l h out = record {
  fuel = suc (length (m.rest h));
  enough = omega arith;
  walk = record { at = reach_start m l h; on = refl };
}

-- the lines are that of the first token, and those of what it leaves
abbrev Onward : ℕ → ℕ → List ℕ → Ending → Type 0
Onward k room rest e =
    (j : ℕ) × (length rest ≤ j)
    × (lines_at k room rest e ≡ answer_text (token_of room rest e).answer (token_of room rest e).content
    ++ cond (goes_on (token_of room rest e).answer) (lines_at j room (token_of room rest e).left e) [])

lines_now : (k room : ℕ) (rest : List ℕ) (e : Ending) → length rest < k → Onward k room rest e
lines_now zero room rest e h = let no_way : ⊥ = omega arith in absurd no_way
lines_now (suc j) room rest e h = (j, omega arith, refl)

module _
    {H : Type 0} (m : Model H) (l : Lawful H m) (room : ℕ) (ok : unfit room ≡ false) (h x x' : H) (before out out' : List ℕ) (more : Bool)
    (k : Listing room m h x before out)
    (y : x' ≡ gone_to m x (token_of room (m.rest x) (m.ending x)).left (token_of room (m.rest x) (m.ending x)).peeked)
    (s : Listed (token_of room (m.rest x) (m.ending x)) out more out') where
  steady : (rest : List ℕ) (e : Ending) → Steady rest (token_read room rest e).left (token_read room rest e).peeked
  steady = steady_token room ok

  read : Reads m (token_read room) x (token_of room (m.rest x) (m.ending x)).answer x'
  read = record { answer = refl; after = y }

  here : Listed (token_of room (m.rest x) (m.ending h)) out more out'
  here = subst (λ e. Listed (token_of room (m.rest x) e) out more out') k.walk.at.same s

  left : m.rest x' ≡ (token_of room (m.rest x) (m.ending h)).left
  left = walk_left m l (token_read room) h x _ x' _ _ steady k.walk read

  next : Onward k.fuel room (m.rest x) (m.ending h)
  next = lines_now k.fuel room (m.rest x) (m.ending h) k.enough

  pub listing_fewer : more ≡ true → length (m.rest x') < length (m.rest x)
  listing_fewer q = omega (arith, falls room ok (m.rest x) (m.ending h) (sym here.goes ∙ q), ap length left)

  pub listing_more : more ≡ true → Listing room m h x' before out'
  listing_more q = record {
    fuel = next.0;
    enough = omega (arith, next.1, listing_fewer q);
    walk = walk_on m l (token_read room) h x _ x' _ _ steady k.walk read (λ r. out' ++ lines_at next.0 room r (m.ending h))
        (ap (λ t. out ++ t) (next.2 ∙ ap (λ t. answer_text (token_of room (m.rest x) (m.ending h)).answer (token_of room (m.rest x) (m.ending h)).content ++ t) (cond-true (goes_on (token_of room (m.rest x) (m.ending h)).answer) _ _ (sym here.goes ∙ q)))
        ∙ (sym (append_assoc out _ (lines_at next.0 room (token_of room (m.rest x) (m.ending h)).left (m.ending h)))
        ∙ ap (λ o. o ++ lines_at next.0 room (token_of room (m.rest x) (m.ending h)).left (m.ending h)) (sym here.lines)));
  }

  pub listing_done : more ≡ false → out' ≡ before ++ lines_of room (m.rest h) (m.ending h)
  listing_done q =
      here.lines
      ∙ (ap (λ t. out ++ t) (sym (next.2 ∙ (ap (λ t. answer_text (token_of room (m.rest x) (m.ending h)).answer (token_of room (m.rest x) (m.ending h)).content ++ t) (cond-false (goes_on (token_of room (m.rest x) (m.ending h)).answer) _ _ (sym here.goes ∙ q)) ∙ append-nil _)))
      ∙ k.walk.on)

-- the law of lines: more fuel changes nothing

lines_free : (k j room : ℕ) → unfit room ≡ false → (rest : List ℕ) (e : Ending) → length rest < k → length rest < j → lines_at k room rest e ≡ lines_at j room rest e
lines_free zero j room ok rest e p q = let no_way : ⊥ = omega arith in absurd no_way
lines_free (suc k) zero room ok rest e p q = let no_way : ⊥ = omega arith in absurd no_way
lines_free (suc k) (suc j) room ok rest e p q =
    ap (λ t. answer_text (token_of room rest e).answer (token_of room rest e).content ++ t)
    (at (goes_on (token_of room rest e).answer) refl (lines_free k j room ok (token_of room rest e).left e))
  where
    at : (b : Bool) → goes_on (token_of room rest e).answer ≡ b
        → (length (token_of room rest e).left < k → length (token_of room rest e).left < j → lines_at k room (token_of room rest e).left e ≡ lines_at j room (token_of room rest e).left e)
        → cond b (lines_at k room (token_of room rest e).left e) [] ≡ cond b (lines_at j room (token_of room rest e).left e) []
    at false g rec = refl
    at true g rec =
        let f : length (token_of room rest e).left < length rest = falls room ok rest e g in
        rec (let a : length (token_of room rest e).left < k = omega arith in a) (let a : length (token_of room rest e).left < j = omega arith in a)

pub lines_law : LinesLaw
lines_law room ok rest e =
    ap (λ t. answer_text (token_of room rest e).answer (token_of room rest e).content ++ t) (at (goes_on (token_of room rest e).answer) refl)
  where
    at : (b : Bool) → goes_on (token_of room rest e).answer ≡ b
        → cond b (lines_at (length rest) room (token_of room rest e).left e) [] ≡ cond b (lines_of room (token_of room rest e).left e) []
    at false g = refl
    at true g =
        let f : length (token_of room rest e).left < length rest = falls room ok rest e g in
        lines_free (length rest) (suc (length (token_of room rest e).left)) room ok (token_of room rest e).left e f (let a : length (token_of room rest e).left < suc (length (token_of room rest e).left) = omega arith in a)
