use Rattle.std.proofs.Common.{◌≡◌, ℕ, ◌+◌, List, ◌++◌, length, drop, Ok, decimal, ap, ◌∙◌, arith}
use Rattle.std.proofs.lemmas.List.{length-append}
use Rattle.listing.specs.Placing.{Placed}
use Rattle.listing.specs.Lines.{Prints, fault_text}

-- a text that was written at the start of the area
pub prints_whole : {text area : List ℕ} {r : ℕ} {area' : List ℕ} → Placed 0 text area r area' → Prints text area (Ok r) area'
prints_whole {text} {area} {r} x =
    let w = x.within in
    let b = x.behind in
    let e : r ≡ length text = omega arith in
    let z : 0 + length text ≡ length text = omega arith in
    record {
      fits = λ h. (ap Ok e, x.holds ∙ ap (λ n. text ++ drop n area) z);
      refused = λ h. let no : ⊥ = omega arith in absurd no;
    }

pub length_fault : (number depth : ℕ) → length (fault_text number depth) ≡ length (decimal number) + length (decimal depth) + 8
length_fault number depth = simp length-append (omega arith)
