use Rattle.std.proofs.Common.{◌≡◌, ℕ, true, false, List, Ok, Err, Result, is_ok, IsOkAnd, IsErrAnd, MatchResult, sym, refl, ap, ◌∙◌, subst, arith}
use Rattle.std.proofs.lemmas.Result.{err_from_is_err_and}
use Rattle.source.specs.declared.ending.Ending.{Ending}
use Rattle.source.specs.declared.fault.Fault.{Fault as Flaw}
use Rattle.source.specs.Model.{Model}
use Rattle.source.specs.Reads.{Read, Reads}
use Rattle.scanner.specs.declared.failure.Failure.{Failure}
use Rattle.scanner.specs.declared.failure.Failure.TheVariants.{Fault}
use Rattle.scanner.specs.declared.kinds.Kind.{Kind}
use Rattle.scanner.specs.declared.kinds.Token.{Token}
use Rattle.scanner.specs.Kinds.{token}
use Rattle.scanner.specs.Scan.{Scan, Scans}
use Rattle.scanner.specs.Tokens.{tokened, as_token}

-- what a `?` behind `map_err` lets pass is what the call answered
passed : {A E : Type 0} (D : Type 0) (Q : E → Type 0) (r : Result A E) (x : A) → MatchResult r (λ y. ◌≡◌ {A = Result A D} (Ok x) (Ok y)) Q → true ≡ is_ok r → Ok x ≡ r
passed D Q (Ok y) x c v = let e : x ≡ y = cc in cc
passed D Q (Err e) x c v = let z : ◌≡◌ {A = ℕ} 0 1 = cc in let no_way : ⊥ = omega arith in absurd no_way

pub reads_passed :
    {H A E : Type 0} (D : Type 0) (Q : E → Type 0) (m : Model H) (f : List ℕ → Ending → Read (Result A E)) (h h' : H) (r : Result A E) (x : A)
    → Reads m f h r h' → MatchResult r (λ y. ◌≡◌ {A = Result A D} (Ok x) (Ok y)) Q → true ≡ is_ok r → Reads m f h (Ok x) h'
reads_passed D Q m f h h' r x k c v = subst (λ r. Reads m f h r h') (sym (passed D Q r x c v)) k

-- what a `?` behind `map_err` gives back is the fault that the call answered, with the count
pub stopped :
    {A : Type 0} (n : ℕ) (r : Result A Flaw) (d : Failure)
    → MatchResult r (λ y. ◌≡◌ {A = Result A Failure} (Err d) (Ok y)) (λ f. d ≡ Fault f n) → false ≡ is_ok r
    → (f : Flaw) × (r ≡ Err f) × (d ≡ Fault f n)
stopped n (Ok y) d c v = let z : ◌≡◌ {A = ℕ} 0 1 = cc in let no_way : ⊥ = omega arith in absurd no_way
stopped n (Err f) d c v = (f, refl, c)

-- what `map` makes a token of
pub tokened_map :
    (k : Kind) (r : Result ℕ Failure) (t : Result Token Failure) (Q : ℕ → Token → Type 0) → ((n : ℕ) (y : Token) → Q n y → y ≡ token k n)
    → MatchResult r (λ n. IsOkAnd t (Q n)) (λ f. t ≡ Err f) → t ≡ tokened k r
tokened_map k (Ok n) (Ok y) Q q c = ap Ok (q n y c)
tokened_map k (Ok n) (Err f) Q q c = absurd c
tokened_map k (Err f) t Q q c = c

-- what a `?` gives back is the failure that it met
pub given_back : {A : Type 0} (r : Result A Failure) (f : Failure) → IsErrAnd r (λ y. y ≡ f) → r ≡ Err f
given_back r f h = let p = err_from_is_err_and r h in p.1 ∙ ap Err p.2

pub scans_token :
    {H : Type 0} (m : Model H) (f : ℕ → List ℕ → Ending → Scan (Result ℕ Failure)) (h h' : H) (old new : List ℕ) (r : Result ℕ Failure) (k : Kind)
    (t : Result Token Failure) → t ≡ tokened k r → Scans m f h old r h' new → Scans m (λ room rest e. as_token k (f room rest e)) h old t h' new
scans_token m f h h' old new r k t e y = record { answer = e ∙ ap (tokened k) y.answer; filled = y.filled; after = y.after }
