use Rattle.std.proofs.Common.{◌≡◌, ℕ, ◌+◌, ◌<◌, ◌≤◌, Bool, true, false, cond, ◌||◌, eqb, ltb, List, [], ◌∷◌, ◌++◌, length, sym, refl, ap, ◌∙◌, subst, ap₂, ⊎_elim, append_assoc, arith}
use Rattle.std.proofs.lemmas.List.{append-nil, length-append}
use Rattle.std.proofs.lemmas.Bool.{cond-true, cond-false, lt-ltb, ltb-true, eqb-true, eq-eqb, and_parts, and_from, or_cases, or_left, or_right, cases_Bool, cases_lt}
use Rattle.std.proofs.lemmas.Bool.Decides.{nat_tests}
use Rattle.source.specs.Bytes.{digit_value}
use Rattle.scanner.specs.Numbers.{sign, behind_sign, behind_digits, behind_point, only_digits, power, exponent, real_behind_sign, real_of}
use Rattle.scanner.specs.FigureLaw.{Figures}
use Rattle.scanner.specs.RealLaw.{Sign, no_sign, a_sign, Mantissa, pointless, pointed, Exponent, no_exponent, an_exponent, Real, RealLaw}
use Rattle.scanner.proofs.FigureLawful.{digit_tells, figures_bare, figures_all}

-- a list in two parts, the first of which is a sign or nothing
record SignSplit (s : List ℕ) : Type 0 where
  minus : List ℕ
  rest : List ℕ
  joined : s ≡ minus ++ rest
  is_sign : Sign minus
  behind : behind_sign s ≡ rest

split_sign : (s : List ℕ) → SignSplit s
split_sign [] = record { minus = []; rest = []; joined = refl; is_sign = no_sign; behind = refl }
split_sign (b ∷ bs) = at (sign b) refl
  where
    at : (t : Bool) → sign b ≡ t → SignSplit (b ∷ bs)
    at true e = record { minus = b ∷ []; rest = bs; joined = refl; is_sign = a_sign b e; behind = cond-true (sign b) _ _ e }
    at false e = record { minus = []; rest = b ∷ bs; joined = refl; is_sign = no_sign; behind = cond-false (sign b) _ _ e }

-- the digits at the start
record DigitSplit (s : List ℕ) : Type 0 where
  digits : List ℕ
  joined : s ≡ digits ++ behind_digits s
  figures : Figures 10 digits

split_digits : (s : List ℕ) → DigitSplit s
split_digits [] = record { digits = []; joined = refl; figures = tt }
split_digits (b ∷ bs) = at (ltb (digit_value b) 10) refl (split_digits bs)
  where
    at : (t : Bool) → ltb (digit_value b) 10 ≡ t → DigitSplit bs → DigitSplit (b ∷ bs)
    at true e d = record {
      digits = b ∷ d.digits;
      joined = ap (λ r. b ∷ r) d.joined ∙ ap (λ r. b ∷ (d.digits ++ r)) (sym (cond-true (ltb (digit_value b) 10) _ _ e));
      figures = (ltb-true (digit_value b) 10 e, d.figures);
    }
    at false e d = record { digits = []; joined = sym (cond-false (ltb (digit_value b) 10) _ _ e); figures = tt }

-- behind the digits stand none
digits_gone : (s : List ℕ) → behind_digits (behind_digits s) ≡ behind_digits s
digits_gone [] = refl
digits_gone (b ∷ bs) = at (ltb (digit_value b) 10) refl (digits_gone bs)
  where
    at : (t : Bool) → ltb (digit_value b) 10 ≡ t → behind_digits (behind_digits bs) ≡ behind_digits bs
        → behind_digits (cond (ltb (digit_value b) 10) (behind_digits bs) (b ∷ bs)) ≡ cond (ltb (digit_value b) 10) (behind_digits bs) (b ∷ bs)
    at true e r = ap behind_digits (cond-true (ltb (digit_value b) 10) _ _ e) ∙ (r ∙ sym (cond-true (ltb (digit_value b) 10) _ _ e))
    at false e r = ap behind_digits (cond-false (ltb (digit_value b) 10) _ _ e)

digits_passed : (digits rest : List ℕ) → Figures 10 digits → behind_digits (digits ++ rest) ≡ behind_digits rest
digits_passed [] rest f = refl
digits_passed (b ∷ bs) rest f = cond-true (ltb (digit_value b) 10) _ _ (lt-ltb (digit_value b) 10 f.0) ∙ digits_passed bs rest f.1

empty : (s : List ℕ) → length s ≡ 0 → s ≡ []
empty [] e = refl
empty (b ∷ bs) e = let no_way : ⊥ = omega arith in absurd no_way

-- an exponent is found exactly if it is one

digits_found : (d : List ℕ) → only_digits d ≡ true → Figures 10 d × (0 < length d)
digits_found d h =
    let p = and_parts (ltb 0 (length d)) (eqb (length (behind_digits d)) 0) h in
    let none : behind_digits d ≡ [] = empty (behind_digits d) (eqb-true (length (behind_digits d)) 0 p.1) in
    let k = split_digits d in
    (subst (Figures 10) (sym (k.joined ∙ (ap (λ r. k.digits ++ r) none ∙ append-nil k.digits))) k.figures, ltb-true 0 (length d) p.0)

exponent_found : (x : List ℕ) → exponent x ≡ true → Exponent x
exponent_found [] h = no_exponent
exponent_found (b ∷ bs) h =
    let p = and_parts (power b) (only_digits (behind_sign bs)) h in
    let k = split_sign bs in
    let d = digits_found k.rest (sym (ap only_digits k.behind) ∙ p.1) in
    subst (λ r. Exponent (b ∷ r)) (sym k.joined) (an_exponent b k.minus k.rest p.0 k.is_sign d.0 d.1)

sign_gone : (minus rest : List ℕ) → Sign minus → behind_sign rest ≡ rest → behind_sign (minus ++ rest) ≡ rest
sign_gone minus rest no_sign e = e
sign_gone minus rest (a_sign b q) e = cond-true (sign b) _ _ q

digits_only : (d : List ℕ) → Figures 10 d → 0 < length d → only_digits d ≡ true
digits_only d f h = and_from (ltb 0 (length d)) (eqb (length (behind_digits d)) 0) (lt-ltb 0 (length d) h) (eq-eqb (length (behind_digits d)) 0 (ap length (figures_all d f)))

exponent_all : (x : List ℕ) → Exponent x → exponent x ≡ true
exponent_all x no_exponent = refl
exponent_all x (an_exponent b minus digits p s f h) =
    and_from (power b) (only_digits (behind_sign (minus ++ digits))) p (ap only_digits (sign_gone minus digits s (figures_bare digits f).0) ∙ digits_only digits f h)

-- e and E are no digits and no points
power_tells : (b : ℕ) → power b ≡ true → (ltb (digit_value b) 10 ≡ false) × (eqb b 46 ≡ false)
power_tells b p = (grind (arith, nat_tests), grind (arith, nat_tests))

exponent_stays : (x : List ℕ) → Exponent x → (behind_digits x ≡ x) × (behind_point x ≡ x)
exponent_stays x no_exponent = (refl, refl)
exponent_stays x (an_exponent b minus digits p s f h) =
    (cond-false (ltb (digit_value b) 10) _ _ (power_tells b p).0, cond-false (eqb b 46) _ _ (power_tells b p).1)

-- the parts of a real behind its sign

abbrev tail_of : List ℕ → List ℕ
tail_of r = behind_digits (behind_point (behind_digits r))

abbrev some_digit : List ℕ → Bool
some_digit r = ltb (length (behind_digits r)) (length r) || ltb (length (tail_of r)) (length (behind_point (behind_digits r)))

record Body (r : List ℕ) : Type 0 where
  mantissa : List ℕ
  tail : List ℕ
  joined : r ≡ mantissa ++ tail
  is_mantissa : Mantissa mantissa
  is_exponent : Exponent tail

body_found : (r : List ℕ) → real_behind_sign r ≡ true → Body r
body_found r h = at (behind_digits r) refl
  where
    whole : DigitSplit r
    whole = split_digits r

    parts : (some_digit r ≡ true) × (exponent (tail_of r) ≡ true)
    parts = and_parts (some_digit r) (exponent (tail_of r)) h

    long : length r ≡ length whole.digits + length (behind_digits r)
    long = ap length whole.joined ∙ length-append whole.digits (behind_digits r)

    unpointed : behind_point (behind_digits r) ≡ behind_digits r → Body r
    unpointed e =
        let same : tail_of r ≡ behind_digits r = ap behind_digits e ∙ digits_gone r in
        let some : 0 < length whole.digits = ⊎_elim
        (λ (p : ltb (length (behind_digits r)) (length r) ≡ true). let k = ltb-true _ _ p in omega (arith, long))
        (λ (p : ltb (length (tail_of r)) (length (behind_point (behind_digits r))) ≡ true).
        let k = ltb-true _ _ p in let no_way : ⊥ = omega (arith, ap length same, ap length e) in absurd no_way)
        (or_cases (ltb (length (behind_digits r)) (length r)) _ parts.0) in
        record {
          mantissa = whole.digits;
          tail = behind_digits r;
          joined = whole.joined;
          is_mantissa = pointless whole.digits whole.figures some;
          is_exponent = exponent_found (behind_digits r) (sym (ap exponent same) ∙ parts.1);
        }

    at : (t : List ℕ) → behind_digits r ≡ t → Body r
    at [] q = unpointed (ap behind_point q ∙ sym q)
    at (b ∷ u) q = ⊎_elim
        (λ (p : eqb b 46 ≡ true).
        let point : b ≡ 46 = eqb-true b 46 p in
        let behind : behind_point (behind_digits r) ≡ u = ap behind_point q ∙ cond-true (eqb b 46) _ _ p in
        let fraction = split_digits u in
        let last : tail_of r ≡ behind_digits u = ap behind_digits behind in
        let size : length u ≡ length fraction.digits + length (behind_digits u) = ap length fraction.joined ∙ length-append fraction.digits (behind_digits u) in
        let some : 0 < length whole.digits + length fraction.digits = ⊎_elim
        (λ (p : ltb (length (behind_digits r)) (length r) ≡ true). let k = ltb-true _ _ p in omega (arith, long))
        (λ (p : ltb (length (tail_of r)) (length (behind_point (behind_digits r))) ≡ true).
        let k = ltb-true _ _ p in omega (arith, ap length last, ap length behind, size))
        (or_cases (ltb (length (behind_digits r)) (length r)) _ parts.0) in
        record {
          mantissa = whole.digits ++ 46 ∷ fraction.digits;
          tail = behind_digits u;
          joined =
              whole.joined
              ∙ (ap (λ t. whole.digits ++ t) (q ∙ ap₂ (λ b u. b ∷ u) point fraction.joined)
              ∙ sym (append_assoc whole.digits (46 ∷ fraction.digits) (behind_digits u)));
          is_mantissa = pointed whole.digits fraction.digits whole.figures fraction.figures some;
          is_exponent = exponent_found (behind_digits u) (sym (ap exponent last) ∙ parts.1);
        })
        (λ (p : eqb b 46 ≡ false). unpointed (ap behind_point q ∙ (cond-false (eqb b 46) _ _ p ∙ sym q)))
        (cases_Bool (eqb b 46))

real_found : (s : List ℕ) → real_of s ≡ true → Real s
real_found s h =
    let k = split_sign s in
    let b = body_found k.rest (sym (ap real_behind_sign k.behind) ∙ h) in
    record {
      minus = k.minus;
      mantissa = b.mantissa;
      tail = b.tail;
      parts = k.joined ∙ ap (λ r. k.minus ++ r) b.joined;
      is_sign = k.is_sign;
      is_mantissa = b.is_mantissa;
      is_exponent = b.is_exponent;
    }

-- and the other way round

real_from :
    (r digits point tail : List ℕ) → behind_digits r ≡ digits → behind_point digits ≡ point → behind_digits point ≡ tail
    → (ltb (length digits) (length r) || ltb (length tail) (length point)) ≡ true → exponent tail ≡ true → real_behind_sign r ≡ true
real_from r digits point tail p q s some e =
    let a : behind_point (behind_digits r) ≡ point = ap behind_point p ∙ q in
    let b : tail_of r ≡ tail = ap behind_digits a ∙ s in
    and_from (some_digit r) (exponent (tail_of r))
    (ap₂ (λ d t. ltb (length d) (length r) || ltb (length t) (length (behind_point d))) p b ∙ (ap (λ x. ltb (length digits) (length r) || ltb (length tail) (length x)) q ∙ some))
    (ap exponent b ∙ e)

body_all : (m x : List ℕ) → Mantissa m → Exponent x → real_behind_sign (m ++ x) ≡ true
body_all m x (pointless whole f h) e =
    let stays = exponent_stays x e in
    let k : length x < length (whole ++ x) = omega (arith, length-append whole x) in
    real_from (whole ++ x) x x x (digits_passed whole x f ∙ stays.0) stays.1 stays.0
    (or_left (ltb (length x) (length (whole ++ x))) _ (lt-ltb _ _ k)) (exponent_all x e)
body_all m x (pointed whole fraction f g h) e =
    let stays = exponent_stays x e in
    let r = (whole ++ 46 ∷ fraction) ++ x in
    let same : r ≡ whole ++ 46 ∷ (fraction ++ x) = append_assoc whole (46 ∷ fraction) x in
    let size : length r ≡ length whole + (1 + (length fraction + length x)) = omega (arith, ap length same, length-append whole (46 ∷ (fraction ++ x)), length-append fraction x) in
    let size₂ : length (fraction ++ x) ≡ length fraction + length x = length-append fraction x in
    real_from r (46 ∷ (fraction ++ x)) (fraction ++ x) x (ap behind_digits same ∙ digits_passed whole (46 ∷ (fraction ++ x)) f) refl (digits_passed fraction x g ∙ stays.0)
    (⊎_elim
    (λ (k : 0 < length whole). or_left (ltb (length (46 ∷ (fraction ++ x))) (length r)) _ (lt-ltb _ _ (let lt : length (46 ∷ (fraction ++ x)) < length r = omega arith in lt)))
    (λ (k : length whole ≤ 0). or_right (ltb (length (46 ∷ (fraction ++ x))) (length r)) _ (lt-ltb _ _ (let lt : length x < length (fraction ++ x) = omega arith in lt)))
    (cases_lt 0 (length whole)))
    (exponent_all x e)

-- no sign stands first in a mantissa
mantissa_bare : (m x : List ℕ) → Mantissa m → behind_sign (m ++ x) ≡ m ++ x
mantissa_bare m x (pointless [] f h) = let no_way : ⊥ = omega arith in absurd no_way
mantissa_bare m x (pointless (b ∷ bs) f h) = cond-false (sign b) _ _ (digit_tells b f.0).0
mantissa_bare m x (pointed [] fraction f g h) = refl
mantissa_bare m x (pointed (b ∷ bs) fraction f g h) = cond-false (sign b) _ _ (digit_tells b f.0).0

pub real_law : RealLaw
real_law = record {
  found = real_found;
  all = λ s r.
      ap real_of r.parts
      ∙ (ap real_behind_sign (sign_gone r.minus (r.mantissa ++ r.tail) r.is_sign (mantissa_bare r.mantissa r.tail r.is_mantissa))
      ∙ body_all r.mantissa r.tail r.is_mantissa r.is_exponent);
}
