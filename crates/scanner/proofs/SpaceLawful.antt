use Rattle.std.proofs.Common.{◌≡◌, ℕ, true, false, not, eqb, List, [], ◌∷◌, ◌++◌, sym, refl, ap, ◌∙◌, arith}
use Rattle.std.proofs.lemmas.Bool.{cond-true, cond-false}
use Rattle.std.proofs.lemmas.Bool.Decides.{nat_tests}
use Rattle.source.specs.declared.ending.Ending.{Ending}
use Rattle.source.specs.Bytes.{white}
use Rattle.scanner.specs.Spaces.{line_end, skip_by, skipped}
use Rattle.scanner.specs.Tokens.{unfit, next_of, token_of}
use Rattle.scanner.specs.SpaceLaw.{OneLine, SpaceLaw}
use Rattle.scanner.proofs.TokenUses.{fit_token}

-- a white byte begins no comment
white_no_comment : (b : ℕ) → white b ≡ true → eqb b 37 ≡ false
white_no_comment b w = grind (arith, nat_tests)

-- a line end is white
line_end_white : (b : ℕ) → line_end b ≡ true → white b ≡ true
line_end_white b l = grind (arith, nat_tests)

white_passed : (b : ℕ) (rest : List ℕ) → white b ≡ true → skipped false (b ∷ rest) ≡ skipped false rest
white_passed b rest w =
    ap (λ o. skip_by o (b ∷ rest) (λ o. skipped o rest)) (cond-false (eqb b 37) _ _ (white_no_comment b w) ∙ cond-true (white b) _ _ w)

-- the bytes of a comment are passed over, and so is the line end behind them
comment_passed : (text : List ℕ) → OneLine text → (b : ℕ) (rest : List ℕ) → line_end b ≡ true → skipped true (text ++ b ∷ rest) ≡ skipped false rest
comment_passed [] f b rest l = ap (λ t. skipped (not t) rest) l
comment_passed (c ∷ text) f b rest l = ap (λ t. skipped (not t) (text ++ b ∷ rest)) f.0 ∙ comment_passed text f.1 b rest l

comment_ended : (text : List ℕ) → OneLine text → skipped true text ≡ []
comment_ended [] f = refl
comment_ended (c ∷ text) f = ap (λ t. skipped (not t) text) f.0 ∙ comment_ended text f.1

same_token : (room : ℕ) (a b : List ℕ) (e : Ending) → unfit room ≡ false → skipped false a ≡ skipped false b → token_of room a e ≡ token_of room b e
same_token room a b e fit s = fit_token room a e fit ∙ (ap (λ r. next_of room r e) s ∙ sym (fit_token room b e fit))

pub space_law : SpaceLaw
space_law = record {
  whites = λ room b rest e fit w. same_token room (b ∷ rest) rest e fit (white_passed b rest w);
  comments = λ room text b rest e fit f l.
      same_token room (37 ∷ (text ++ b ∷ rest)) (b ∷ rest) e fit (comment_passed text f b rest l ∙ sym (white_passed b rest (line_end_white b l)));
  last_comment = λ room text e fit f. fit_token room (37 ∷ text) e fit ∙ ap (λ r. next_of room r e) (comment_ended text f);
}
