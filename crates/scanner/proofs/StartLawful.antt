use Rattle.std.proofs.Common.{◌≡◌, ℕ, Bool, true, false, cond, eqb, List, [], ◌∷◌, None, refl, ap, ◌∙◌, arith}
use Rattle.std.proofs.lemmas.Bool.{cond-false, ne_eqb}
use Rattle.std.proofs.lemmas.Bool.Decides.{nat_tests}
use Rattle.source.specs.declared.ending.Ending.{Ending}
use Rattle.source.specs.Bytes.{white}
use Rattle.scanner.specs.declared.class.Class.TheVariants.{White, Special, Regular}
use Rattle.scanner.specs.Classes.{special, class_of}
use Rattle.scanner.specs.Runs.{run_at}
use Rattle.scanner.specs.Spaces.{skip_by, skipped}
use Rattle.scanner.specs.Takes.{take_if_by}
use Rattle.scanner.specs.Tokens.{start_of, as_token, slash, name_of, unfit, next_by, next_of}
use Rattle.scanner.specs.StartLaw.{StartLaw}

-- a regular byte is neither white nor special
regular_tells : (b : ℕ) → class_of b ≡ Regular → (white b ≡ false) × (special b ≡ false)
regular_tells b = at (white b) (special b)
  where
    at : (w s : Bool) → cond w White (cond s Special Regular) ≡ Regular → (w ≡ false) × (s ≡ false)
    at true s e = let z : ◌≡◌ {A = ℕ} 0 1 = cc in let no_way : ⊥ = omega arith in absurd no_way
    at false true e = let z : ◌≡◌ {A = ℕ} 0 1 = cc in let no_way : ⊥ = omega arith in absurd no_way
    at false false e = (refl, refl)

-- what is not special begins a run
starts_run : (b : ℕ) → special b ≡ false → (eqb b 37 ≡ false) × (start_of b ≡ None)
starts_run b h = (grind (arith, nat_tests), grind (arith, nat_tests))

stays : (b : ℕ) (bs : List ℕ) → white b ≡ false → eqb b 37 ≡ false → skipped false (b ∷ bs) ≡ b ∷ bs
stays b bs w p = ap (λ o. skip_by o (b ∷ bs) (λ o. skipped o bs)) (cond-false (eqb b 37) _ _ p ∙ cond-false (white b) _ _ w)

slashed : (room b : ℕ) (bs : List ℕ) (e : Ending) (t : Bool) → eqb b 47 ≡ t
    → name_of room (b ∷ bs) e ≡ as_token (slash (take_if_by t b bs).answer) (run_at [] (take_if_by t b bs).left)
slashed room b bs e t q = ap (λ t. as_token (slash (take_if_by t b bs).answer) (run_at [] (take_if_by t b bs).left)) q

pub start_law : StartLaw
start_law = record {
  words = λ room b bs e fit r.
      let t = regular_tells b r in
      let s = starts_run b t.1 in
      cond-false (unfit room) _ _ fit ∙ (ap (λ r. next_of room r e) (stays b bs t.0 s.0) ∙ ap (λ k. next_by k room b bs e) s.1);
  literals = λ room b bs e fit ne. cond-false (unfit room) _ _ fit ∙ slashed room b bs e false (ne_eqb b 47 ne);
  immediates = λ room bs e fit. cond-false (unfit room) _ _ fit;
  open_array = λ room bs e fit. cond-false (unfit room) _ _ fit;
  close_array = λ room bs e fit. cond-false (unfit room) _ _ fit;
  open_procedure = λ room bs e fit. cond-false (unfit room) _ _ fit;
  close_procedure = λ room bs e fit. cond-false (unfit room) _ _ fit;
  open_dictionary = λ room bs e fit. cond-false (unfit room) _ _ fit;
  close_dictionary = λ room bs e fit. cond-false (unfit room) _ _ fit;
}
