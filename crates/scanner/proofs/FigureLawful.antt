use Rattle.std.proofs.Common.{◌≡◌, ℕ, ◌+◌, ◌*◌, ◌^◌, ◌<◌, ◌≤◌, true, false, cond, ◌&&◌, ◌||◌, eqb, ltb, leb, List, [], ◌∷◌, ◌++◌, length, Some, None, Ok, Result, sym, refl, ap, ◌∙◌, ap₂, add_assoc, mul_assoc, mul_comm, add-mul, pow-suc, arith}
use native.Mathlib.Nat.{pow-zero}
use Rattle.std.proofs.lemmas.Bool.{cond-true, cond-false, lt-ltb, le-leb, lt-leb, and_from}
use Rattle.std.proofs.lemmas.Bool.Decides.{nat_tests}
use Rattle.source.specs.Bytes.{digit_value}
use Rattle.source.specs.declared.fault.Fault.{Fault}
use Rattle.scanner.specs.declared.kinds.Kind.{Kind}
use Rattle.scanner.specs.declared.kinds.Kind.TheVariants.{Real, Name}
use Rattle.scanner.specs.Digits.{digits_behind, digits_of}
use Rattle.scanner.specs.Numbers.{sign, behind_one, behind_sign, negative, signed_value, integer_of, integer_or, radix_or, radix_in, radix_value, radix_of, twos_of, behind_digits, exponent, real_behind_sign, real_of, word_of}
use Rattle.scanner.specs.FigureLaw.{worth, Figures, FigureLaw}

-- a decimal digit is no sign and no #
pub digit_tells : (b : ℕ) → digit_value b < 10 → (sign b ≡ false) × (eqb b 45 ≡ false) × (eqb b 35 ≡ false)
digit_tells b h = (grind (arith, nat_tests), grind (arith, nat_tests), grind (arith, nat_tests))

more_worth : (v base d p w : ℕ) → (v * base + d) * p + w ≡ v * (p * base) + (d * p + w)
more_worth v base d p w =
    ap (λ x. x + w) (add-mul (v * base) d p ∙ ap (λ x. x + d * p) (mul_assoc v base p ∙ ap (λ x. v * x) (mul_comm base p)))
    ∙ add_assoc (v * (p * base)) (d * p) w

digits_worth : (base v : ℕ) (s : List ℕ) → Figures base s → digits_behind base v s ≡ Some (v * base ^ length s + worth base s)
digits_worth base v [] f = ap Some (let e : v ≡ v * 1 + 0 = omega arith in e ∙ ap (λ p. v * p + 0) (sym (pow-zero base)))
digits_worth base v (b ∷ bs) f =
    cond-true (ltb (digit_value b) base) _ _ (lt-ltb (digit_value b) base f.0)
    ∙ (digits_worth base (v * base + digit_value b) bs f.1
    ∙ ap Some (more_worth v base (digit_value b) (base ^ length bs) (worth base bs)
    ∙ ap (λ x. v * x + (digit_value b * base ^ length bs + worth base bs)) (sym (pow-suc base (length bs)))))

some_worth : (base : ℕ) (s : List ℕ) → 0 < length s → Figures base s → digits_of base s ≡ Some (worth base s)
some_worth base [] h f = let no_way : ⊥ = omega arith in absurd no_way
some_worth base (b ∷ bs) h f =
    digits_worth base 0 (b ∷ bs) f ∙ ap Some (let e : 0 * base ^ length (b ∷ bs) + worth base (b ∷ bs) ≡ worth base (b ∷ bs) = omega arith in e)

-- figures have no sign before them
pub figures_bare : (s : List ℕ) → Figures 10 s → (behind_sign s ≡ s) × (negative s ≡ false)
figures_bare [] f = (refl, refl)
figures_bare (b ∷ bs) f = (cond-false (sign b) bs (b ∷ bs) (digit_tells b f.0).0, (digit_tells b f.0).1)

pub figures_all : (s : List ℕ) → Figures 10 s → behind_digits s ≡ []
figures_all [] f = refl
figures_all (b ∷ bs) f = cond-true (ltb (digit_value b) 10) _ _ (lt-ltb (digit_value b) 10 f.0) ∙ figures_all bs f.1

figures_no_hash : (s : List ℕ) → Figures 10 s → radix_of s ≡ None
figures_no_hash [] f = refl
figures_no_hash (a ∷ []) f = refl
figures_no_hash (a ∷ b ∷ []) f = cond-false (eqb b 35) _ _ (digit_tells b f.1.0).2
figures_no_hash (a ∷ b ∷ c ∷ s) f =
    cond-false (eqb b 35) _ _ (digit_tells b f.1.0).2 ∙ cond-false (eqb c 35) _ _ (digit_tells c f.1.1.0).2

signed_no_hash : (c : ℕ) (s : List ℕ) → Figures 10 s → radix_of (c ∷ s) ≡ None
signed_no_hash c [] f = refl
signed_no_hash c (a ∷ []) f = cond-false (eqb a 35) _ _ (digit_tells a f.0).2
signed_no_hash c (a ∷ b ∷ s) f =
    cond-false (eqb a 35) _ _ (digit_tells a f.0).2 ∙ cond-false (eqb b 35) _ _ (digit_tells b f.1.0).2

some_figures : (s : List ℕ) → 0 < worth 10 s → 0 < length s
some_figures [] h = let no_way : ⊥ = omega arith in absurd no_way
some_figures (b ∷ bs) h = omega arith

figures_real : (s : List ℕ) → 0 < length s → Figures 10 s → real_behind_sign s ≡ true
figures_real s h f =
    ap (λ d. (ltb (length d) (length s) || ltb (length (behind_digits (behind_one (λ b. eqb b 46) d))) (length (behind_one (λ b. eqb b 46) d))) && exponent (behind_digits (behind_one (λ b. eqb b 46) d))) (figures_all s f)
    ∙ ap (λ t. (t || false) && true) (lt-ltb 0 (length s) h)

bare_integer : (s : List ℕ) → 0 < length s → Figures 10 s → integer_of s ≡ signed_value false (Some (worth 10 s))
bare_integer s h f =
    ap₂ (λ m d. signed_value m d) (figures_bare s f).1 (ap (digits_of 10) (figures_bare s f).0 ∙ some_worth 10 s h f)

abbrev rest_word : List ℕ → Result Kind Fault
rest_word s = radix_or (radix_of s) (cond (real_of s) (Ok Real) (Ok Name))

real_word : (s : List ℕ) → radix_of s ≡ None → real_of s ≡ true → rest_word s ≡ Ok Real
real_word s p q = ap (λ o. radix_or o (cond (real_of s) (Ok Real) (Ok Name))) p ∙ cond-true (real_of s) (Ok Real) (Ok Name) q

-- figures, a # and figures are no integer
hash_stops : (v : ℕ) (base s : List ℕ) → Figures 10 base → digits_behind 10 v (base ++ 35 ∷ s) ≡ None
hash_stops v [] s f = refl
hash_stops v (b ∷ bs) s f =
    cond-true (ltb (digit_value b) 10) _ _ (lt-ltb (digit_value b) 10 f.0) ∙ hash_stops (v * 10 + digit_value b) bs s f.1

no_integer : (b : ℕ) (bs s : List ℕ) → Figures 10 (b ∷ bs) → integer_of (b ∷ bs ++ 35 ∷ s) ≡ None
no_integer b bs s f =
    ap (λ r. signed_value (eqb b 45) (digits_of 10 r)) (cond-false (sign b) (bs ++ 35 ∷ s) (b ∷ bs ++ 35 ∷ s) (digit_tells b f.0).0)
    ∙ ap (signed_value (eqb b 45)) (hash_stops 0 (b ∷ bs) s f)

in_base : (v : ℕ) (s : List ℕ) → 2 ≤ v → v ≤ 36 → 0 < length s → Figures v s → radix_in (Some v) s ≡ Some (twos_of (worth v s))
in_base v s lo hi h f =
    cond-true (leb 2 v && leb v 36) _ _ (and_from (leb 2 v) (leb v 36) (le-leb 2 v lo) (le-leb v 36 hi)) ∙ ap radix_value (some_worth v s h f)

radix_word :
    (base s : List ℕ) → 0 < length base → length base ≤ 2 → Figures 10 base → 2 ≤ worth 10 base → worth 10 base ≤ 36
    → 0 < length s → Figures (worth 10 base) s → word_of (base ++ 35 ∷ s) ≡ twos_of (worth (worth 10 base) s)
radix_word [] s h k f lo hi n g = let no_way : ⊥ = omega arith in absurd no_way
radix_word (a ∷ []) s h k f lo hi n g =
    ap (λ o. integer_or o (rest_word (a ∷ 35 ∷ s))) (no_integer a [] s f)
    ∙ ap (λ o. radix_or o (cond (real_of (a ∷ 35 ∷ s)) (Ok Real) (Ok Name)))
    (ap (λ o. radix_in o s) (some_worth 10 (a ∷ []) h f) ∙ in_base (worth 10 (a ∷ [])) s lo hi n g)
radix_word (a ∷ b ∷ []) s h k f lo hi n g =
    ap (λ o. integer_or o (rest_word (a ∷ b ∷ 35 ∷ s))) (no_integer a (b ∷ []) s f)
    ∙ ap (λ o. radix_or o (cond (real_of (a ∷ b ∷ 35 ∷ s)) (Ok Real) (Ok Name)))
    (cond-false (eqb b 35) _ _ (digit_tells b f.1.0).2
    ∙ (ap (λ o. radix_in o s) (some_worth 10 (a ∷ b ∷ []) h f) ∙ in_base (worth 10 (a ∷ b ∷ [])) s lo hi n g))
radix_word (a ∷ b ∷ c ∷ base) s h k f lo hi n g = let no_way : ⊥ = omega arith in absurd no_way

pub figure_law : FigureLaw
figure_law = record {
  unsigned = λ s h f w. ap (λ o. integer_or o (rest_word s)) (bare_integer s h f ∙ cond-true (leb (worth 10 s) 2147483647) _ _ (le-leb (worth 10 s) 2147483647 w));
  plus = λ s h f w. ap (λ o. integer_or o (rest_word (43 ∷ s)))
      (ap (signed_value false) (some_worth 10 s h f) ∙ cond-true (leb (worth 10 s) 2147483647) _ _ (le-leb (worth 10 s) 2147483647 w));
  minus = λ s h f w. ap (λ o. integer_or o (rest_word (45 ∷ s)))
      (ap (signed_value true) (some_worth 10 s h f) ∙ cond-true (leb (worth 10 s) 2147483648) _ _ (le-leb (worth 10 s) 2147483648 w));
  beyond = λ s f w.
      let h : 0 < length s = some_figures s (let k : 0 < worth 10 s = omega arith in k) in
      ap (λ o. integer_or o (rest_word s)) (bare_integer s h f ∙ cond-false (leb (worth 10 s) 2147483647) _ _ (lt-leb (worth 10 s) 2147483647 w))
      ∙ real_word s (figures_no_hash s f) (ap real_behind_sign (figures_bare s f).0 ∙ figures_real s h f);
  plus_beyond = λ s f w.
      let h : 0 < length s = some_figures s (let k : 0 < worth 10 s = omega arith in k) in
      ap (λ o. integer_or o (rest_word (43 ∷ s))) (ap (signed_value false) (some_worth 10 s h f) ∙ cond-false (leb (worth 10 s) 2147483647) _ _ (lt-leb (worth 10 s) 2147483647 w))
      ∙ real_word (43 ∷ s) (signed_no_hash 43 s f) (figures_real s h f);
  minus_beyond = λ s f w.
      let h : 0 < length s = some_figures s (let k : 0 < worth 10 s = omega arith in k) in
      ap (λ o. integer_or o (rest_word (45 ∷ s))) (ap (signed_value true) (some_worth 10 s h f) ∙ cond-false (leb (worth 10 s) 2147483648) _ _ (lt-leb (worth 10 s) 2147483648 w))
      ∙ real_word (45 ∷ s) (signed_no_hash 45 s f) (figures_real s h f);
  radix = radix_word;
}
