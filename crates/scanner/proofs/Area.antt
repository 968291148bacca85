use Rattle.std.proofs.Common.{◌≡◌, ℕ, ◌+◌, ◌<◌, ◌≤◌, List, ◌++◌, length, take, drop, set, sym, refl, ap, ap₂, ◌∙◌, arith}
use Rattle.std.proofs.lemmas.List.{length-set, length-take-le, take-append-drop, drop-set-lt, drop-drop}
use Rattle.std.proofs.Math.Seq.{take-set-lt}
use Rattle.source.specs.declared.ending.Ending.{Ending}
use Rattle.source.specs.Model.{Model}
use Rattle.source.specs.Gone.{gone_to}
use Rattle.scanner.specs.Scan.{Scan, Scans}

-- the first n bytes of an area were written, and the others stand as they did
pub record Written (old new : List ℕ) (n : ℕ) : Type 0 where
  pub within : n ≤ length new
  pub behind : drop n new ≡ drop n old

pub written_none : (old : List ℕ) → Written old old 0
written_none old = record { within = omega arith; behind = refl }

pub written_more : (old new : List ℕ) (n b : ℕ) → Written old new n → n < length new → Written old (set new n b) (n + 1)
written_more old new n b w k =
    let le : n + 1 ≤ length (set new n b) = omega (arith, length-set new n b) in
    let lt : n < n + 1 = omega arith in
    record {
      within = le;
      behind = drop-set-lt (n + 1) new n b lt ∙ (sym (drop-drop 1 n new) ∙ (ap (drop 1) w.behind ∙ drop-drop 1 n old));
    }

-- a byte that is set among the first n
pub set_front : (n : ℕ) (l : List ℕ) (i b : ℕ) → i < n → set (take n l) i b ++ drop n l ≡ set l i b
set_front n l i b k =
    ap₂ (λ x y. x ++ y) (sym (take-set-lt n l i b k)) (sym (drop-set-lt n l i b k)) ∙ take-append-drop n (set l i b)

-- how many were written
pub written_count : (old new : List ℕ) (n : ℕ) → Written old new n → length (take n new) ≡ n
written_count old new n w = length-take-le n new w.within

-- what the area holds
pub written_all : (old new : List ℕ) (n : ℕ) → Written old new n → new ≡ take n new ++ drop (length (take n new)) old
written_all old new n w =
    sym (take-append-drop n new) ∙ ap (λ t. take n new ++ t) (w.behind ∙ ap (λ k. drop k old) (sym (written_count old new n w)))

-- what a call does that ends with the first n bytes of the area written
pub scans_at :
    {H A : Type 0} (m : Model H) (f : ℕ → List ℕ → Ending → Scan A) (h : H) (old : List ℕ) (r : A) (h' : H) (new : List ℕ) (n : ℕ) (s : Scan A)
    → s ≡ f (length old) (m.rest h) (m.ending h)
    → Written old new n → s.content ≡ take n new → r ≡ s.answer → h' ≡ gone_to m h s.left s.peeked
    → Scans m f h old r h' new
scans_at m f h old r h' new n s e w c a t = record {
  answer = a ∙ ap (λ (s : Scan _). s.answer) e;
  filled = written_all old new n w ∙ ap (λ x. x ++ drop (length x) old) (sym c ∙ ap (λ (s : Scan _). s.content) e);
  after = t ∙ ap (λ (s : Scan _). gone_to m h s.left s.peeked) e;
}
