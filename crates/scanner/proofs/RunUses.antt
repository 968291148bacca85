use Rattle.std.proofs.Common.{◌≡◌, ℕ, false, eqb, List, [], ◌∷◌, ◌++◌, length, take, Ok, Result, Err, sym, refl, ap, ◌∙◌}
use Rattle.std.proofs.lemmas.Bool.{cond-true, cond-false, eq-eqb, ne_eqb}
use Rattle.source.specs.Model.{Model, first}
use Rattle.source.specs.Laws.{Lawful}
use Rattle.source.proofs.Walk.{Walk, walk_stop_took, look_take}
use Rattle.scanner.specs.declared.failure.Failure.{Failure}
use Rattle.scanner.specs.Scan.{Scans}
use Rattle.scanner.specs.declared.class.Class.{Class}
use Rattle.scanner.specs.declared.class.Class.TheVariants.{Regular}
use Rattle.scanner.specs.Classes.{class_of}
use Rattle.source.specs.declared.fault.Fault.TheVariants.{Limit}
use Rattle.scanner.specs.Failures.{broken}
use Rattle.scanner.specs.Runs.{run_by, run_at, run_of}
use Rattle.scanner.proofs.Area.{Written, written_count, scans_at}

-- what a byte does, by its class
pub run_class : (k : Class) (done : List ℕ) (b : ℕ) (bs : List ℕ) → k ≡ class_of b → run_by k done b bs (run_at (done ++ b ∷ []) bs) ≡ run_at done (b ∷ bs)
run_class k done b bs e = ap (λ k. run_by k done b bs (run_at (done ++ b ∷ []) bs)) e

pub run_full :
    (done : List ℕ) (b : ℕ) (bs : List ℕ) → Regular ≡ class_of b → length done ≡ 127
    → record { answer = Err (broken Limit done); content = done; left = bs; peeked = false } ≡ run_at done (b ∷ bs)
run_full done b bs e n = sym (cond-true (eqb (length done) 127) _ _ (eq-eqb (length done) 127 n)) ∙ run_class Regular done b bs e

pub run_more :
    (done : List ℕ) (b : ℕ) (bs : List ℕ) → Regular ≡ class_of b → (length done ≡ 127 → ⊥) → run_at (done ++ b ∷ []) bs ≡ run_at done (b ∷ bs)
run_more done b bs e n = sym (cond-false (eqb (length done) 127) _ _ (ne_eqb (length done) 127 n)) ∙ run_class Regular done b bs e

-- where a run stops with the byte b, which was taken, and so does its definition
pub run_stopped :
    {H : Type 0} (m : Model H) (l : Lawful H m) (h x x₁ x₂ : H) (old new : List ℕ) (n b : ℕ) (a : ℕ → Result ℕ Failure)
    → Walk m h x (run_at (take n new)) (run_at [] (m.rest h)) → Written old new n
    → Ok b ≡ first (m.rest x) (m.ending x) → x₁ ≡ m.looked x → x₂ ≡ m.taken x₁
    → record { answer = a (length (take n new)); content = take n new; left = m.rest x₂; peeked = false } ≡ run_at (take n new) (b ∷ m.rest x₂)
    → Scans m run_of h old (a n) x₂ new
run_stopped m l h x x₁ x₂ old new n b a k w p t u e =
    let s = walk_stop_took m l h x _ _ x₂ b k p (look_take m l x x₁ x₂ t u) in
    scans_at m run_of h old (a n) x₂ new n _ (e ∙ s.0) w refl (ap a (sym (written_count old new n w))) s.1
