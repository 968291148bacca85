use Rattle.std.proofs.Common.{Ok, ◌≡◌, ℕ, ◌+◌, ◌<◌, ◌≤◌, false, List, [], ◌∷◌, ◌++◌, length, get_or, take, drop, set, sym, ap, ◌∙◌, subst, arith}
use Rattle.std.proofs.lemmas.List.{length-drop, drop_more, take_more, take_more_set}
use Rattle.source.specs.Model.{Model, first, tail}
use Rattle.source.specs.Laws.{Lawful}
use Rattle.source.specs.Gone.{gone_to}
use Rattle.source.proofs.Going.{byte_first}
use Rattle.source.proofs.Walk.{Reach, took}
use Rattle.scanner.proofs.Area.{Written, written_more}

-- n bytes were taken and stand in the area
pub record Filling {H : Type 0} (m : Model H) (h x : H) (old new : List ℕ) (n : ℕ) : Type 0 where
  pub there : x ≡ gone_to m h (m.rest x) false
  pub same : m.ending x ≡ m.ending h
  pub at : m.rest x ≡ drop n (m.rest h)
  pub enough : n ≤ length (m.rest h)
  pub so_far : take n new ≡ take n (m.rest h)
  pub written : Written old new n

module _ {H : Type 0} (m : Model H) (l : Lawful H m) (h x : H) (old new : List ℕ) (n : ℕ) (k : Filling m h x old new n) where
  reach : Reach m h x
  reach = record {
    peeked = false;
    fewer = omega (arith, length-drop n (m.rest h), ap length k.at);
    there = k.there;
    same = k.same;
  }

  -- a byte more
  pub filling_more : (x' : H) (b : ℕ) → n < length new → Ok b ≡ first (m.rest x) (m.ending x) → x' ≡ m.taken x → Filling m h x' old (set new n b) (n + 1)
  filling_more x' b lt p t =
      let r = m.rest h in
      let one : drop n r ≡ b ∷ tail (m.rest x) = sym k.at ∙ byte_first (m.rest x) (m.ending x) b p in
      let left : m.rest x' ≡ tail (m.rest x) = ap m.rest t ∙ l.taken_rest x in
      let len : n < length r = omega (arith, length-drop n r, ap length one, k.enough) in
      let more : drop n r ≡ get_or r n 0 ∷ drop (n + 1) r = drop_more r n 0 len in
      let same_byte : get_or r n 0 ≡ b = cc in
      let same_rest : drop (n + 1) r ≡ tail (m.rest x) = cc in
      record {
        there = subst (λ y. y ≡ gone_to m h (m.rest y) false) (sym t) (took m l h x b reach p);
        same = ap m.ending t ∙ (l.taken_ending x ∙ k.same);
        at = left ∙ sym same_rest;
        enough = omega arith;
        so_far = take_more_set new n b lt ∙ (ap (λ s. s ++ b ∷ []) k.so_far ∙ (ap (λ v. take n r ++ v ∷ []) (sym same_byte) ∙ sym (take_more r n 0 len)));
        written = written_more old new n b k.written lt;
      }
