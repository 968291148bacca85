use Rattle.std.proofs.Common.{◌≡◌, ℕ, zero, suc, ◌+◌, ◌<◌, ◌≤◌, Bool, true, false, cond, not, List, [], ◌∷◌, ◌++◌, length, take, drop, Ok, Err, Result, sym, refl, ap, ◌∙◌, append_assoc, arith}
use Rattle.std.proofs.lemmas.List.{append-nil, length-append}
use Rattle.source.specs.declared.fault.Fault.TheVariants.{Limit}
use Rattle.source.specs.Bytes.{white}
use Rattle.scanner.specs.declared.failure.Failure.{Failure}
use Rattle.scanner.specs.declared.class.Class.{Class}
use Rattle.scanner.specs.declared.class.Class.TheVariants.{White, Special, Regular}
use Rattle.scanner.specs.Classes.{class_of, special}
use Rattle.scanner.specs.Failures.{broken}
use Rattle.scanner.specs.Numbers.{behind_one}
use Rattle.scanner.specs.Scan.{Scan}
use Rattle.scanner.specs.Runs.{run_by, run_at}
use Rattle.scanner.specs.RunLaw.{front_by, front_of, behind_front, starts_white, RunLaw}
use Rattle.scanner.proofs.RunUses.{run_class, run_full, run_more}

no_class : {C : Type 0} {P : Class} {Q : Class} (f : Class → ℕ) → f P ≡ 0 → f Q ≡ 1 → P ≡ Q → C
no_class f p q e = let z : ◌≡◌ {A = ℕ} 0 1 = sym p ∙ (ap f e ∙ q) in let no_way : ⊥ = omega arith in absurd no_way

abbrev as_white : Class → ℕ
as_white White = 0
as_white Special = 1
as_white Regular = 1

abbrev as_special : Class → ℕ
as_special White = 1
as_special Special = 0
as_special Regular = 1

-- the class says whether a byte is white
is_white : (b : ℕ) → White ≡ class_of b → white b ≡ true
is_white b = at (white b) (special b)
  where
    at : (w s : Bool) → White ≡ cond w White (cond s Special Regular) → w ≡ true
    at true s e = refl
    at false true e = no_class as_white refl refl e
    at false false e = no_class as_white refl refl e

not_white : (b : ℕ) → Special ≡ class_of b → white b ≡ false
not_white b = at (white b) (special b)
  where
    at : (w s : Bool) → Special ≡ cond w White (cond s Special Regular) → w ≡ false
    at true s e = no_class as_special refl refl e
    at false s e = refl

-- a run that was read, of which `done` was read before
abbrev read_of : List ℕ → List ℕ → List ℕ → Scan (Result ℕ Failure)
read_of done front tail = record {
  answer = Ok (length (done ++ front));
  content = done ++ front;
  left = behind_one white tail;
  peeked = not (starts_white tail);
}

short_run : (done rest : List ℕ) → length done + length (front_of rest) ≤ 127 → run_at done rest ≡ read_of done (front_of rest) (behind_front rest)
short_run done [] h = ap (λ d. record { answer = Ok (length d); content = d; left = []; peeked = true }) (sym (append-nil done))
short_run done (b ∷ bs) h = at (class_of b) refl h (short_run (done ++ b ∷ []) bs)
  where
    at : (k : Class) → k ≡ class_of b → length done + length (front_by k b (front_of bs)) ≤ 127
        → (length (done ++ b ∷ []) + length (front_of bs) ≤ 127 → run_at (done ++ b ∷ []) bs ≡ read_of (done ++ b ∷ []) (front_of bs) (behind_front bs))
        → run_by k done b bs (run_at (done ++ b ∷ []) bs) ≡ read_of done (front_by k b (front_of bs)) (drop (length (front_by k b (front_of bs))) (b ∷ bs))
    at Regular q h rec =
        let short : length (done ++ b ∷ []) + length (front_of bs) ≤ 127 = omega (arith, length-append done (b ∷ [])) in
        run_class Regular done b bs q
        ∙ (sym (run_more done b bs q (λ full. omega arith))
        ∙ (rec short ∙ ap (λ d. record { answer = Ok (length d); content = d; left = behind_one white (behind_front bs); peeked = not (starts_white (behind_front bs)) }) (append_assoc done (b ∷ []) (front_of bs))))
    at White q h rec =
        ap (λ d. record { answer = Ok (length d); content = d; left = bs; peeked = false }) (sym (append-nil done))
        ∙ ap (λ w. record { answer = Ok (length (done ++ [])); content = done ++ []; left = cond w bs (b ∷ bs); peeked = not w }) (sym (is_white b q))
    at Special q h rec =
        ap (λ d. record { answer = Ok (length d); content = d; left = b ∷ bs; peeked = true }) (sym (append-nil done))
        ∙ ap (λ w. record { answer = Ok (length (done ++ [])); content = done ++ []; left = cond w bs (b ∷ bs); peeked = not w }) (sym (not_white b q))

-- a run that is too long, of which j bytes go before the 128th
abbrev cut_of : List ℕ → List ℕ → Scan (Result ℕ Failure)
cut_of done left = record { answer = Err (broken Limit done); content = done; left = left; peeked = false }

long_run : (j : ℕ) (done rest : List ℕ) → length done + j ≡ 127 → j < length (front_of rest) → run_at done rest ≡ cut_of (done ++ take j rest) (drop (suc j) rest)
long_run j done [] e h = let no_way : ⊥ = omega arith in absurd no_way
long_run zero done (b ∷ bs) e h = at (class_of b) refl h
  where
    at : (k : Class) → k ≡ class_of b → 0 < length (front_by k b (front_of bs)) → run_by k done b bs (run_at (done ++ b ∷ []) bs) ≡ cut_of (done ++ []) bs
    at Regular q h =
        run_class Regular done b bs q ∙ (sym (run_full done b bs q (let n : length done ≡ 127 = omega arith in n)) ∙ ap (λ d. cut_of d bs) (sym (append-nil done)))
    at White q h = let no_way : ⊥ = omega arith in absurd no_way
    at Special q h = let no_way : ⊥ = omega arith in absurd no_way
long_run (suc i) done (b ∷ bs) e h = at (class_of b) refl h (long_run i (done ++ b ∷ []) bs)
  where
    at : (k : Class) → k ≡ class_of b → suc i < length (front_by k b (front_of bs))
        → (length (done ++ b ∷ []) + i ≡ 127 → i < length (front_of bs) → run_at (done ++ b ∷ []) bs ≡ cut_of ((done ++ b ∷ []) ++ take i bs) (drop (suc i) bs))
        → run_by k done b bs (run_at (done ++ b ∷ []) bs) ≡ cut_of (done ++ b ∷ take i bs) (drop (suc i) bs)
    at Regular q h rec =
        let n : length (done ++ b ∷ []) + i ≡ 127 = omega (arith, length-append done (b ∷ [])) in
        let lt : i < length (front_of bs) = omega arith in
        run_class Regular done b bs q
        ∙ (sym (run_more done b bs q (λ full. omega arith)) ∙ (rec n lt ∙ ap (λ d. cut_of d (drop (suc i) bs)) (append_assoc done (b ∷ []) (take i bs))))
    at White q h rec = let no_way : ⊥ = omega arith in absurd no_way
    at Special q h rec = let no_way : ⊥ = omega arith in absurd no_way

pub run_law : RunLaw
run_law = record {
  read = λ rest h. short_run [] rest (let k : 0 + length (front_of rest) ≤ 127 = omega arith in k);
  too_long = λ rest h. long_run 127 [] rest refl h;
}
