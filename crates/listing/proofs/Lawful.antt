use Rattle.std.proofs.Common.{◌≡◌, ℕ, suc, ◌+◌, ◌-◌, ◌*◌, ◌/◌, ◌%◌, ◌^◌, ◌<◌, ◌≤◌, true, false, List, [], ◌∷◌, ◌++◌, length, get_or, decimal, sym, refl, ap, ◌∙◌, ap₂, inl, inr, arith, rules}
use Rattle.std.specs.Int.{IsInRange}
use Rattle.std.proofs.lemmas.Bool.{cases_Bool, cases_lt, cond-true, cond-false, true≢false}
use Rattle.std.proofs.lemmas.List.{length-append}
use Rattle.std.specs.List.{flat_map}
use Rattle.std.proofs.lemmas.Bool.Decides.{nat_tests}
use Rattle.std.proofs.lemmas.Str.Parse.{IsNumeralModel, tells_by_index, numerals_by_weight}
use Rattle.std.proofs.lemmas.Fmt.{decimal_nonempty, decimal_digit, digits_decimal, digits_value-decimal, first_decimal}
use Rattle.source.specs.Bytes.{digit_value, hex_digit, hex_pair_of}
use Rattle.scanner.specs.FigureLaw.{worth, Figures}
use Rattle.listing.specs.Shown.{plain, escape}
use Rattle.listing.specs.Laws.{Decimals, ToldApart}
use Rattle.listing.proofs.ShownUses.{escape_some}

-- the worth of decimal figures, as the library weighs them
abbrev weight : List ℕ → ℕ
weight [] = 0
weight (c ∷ cs) = (c - 48) * 10 ^ length cs + weight cs

own : IsNumeralModel (λ ds. (i : ℕ) → i < length ds → IsInRange 48 57 (get_or ds i 0)) weight
own = numerals_by_weight _ tells_by_index weight (search rules)

figure_value : (c : ℕ) → 48 ≤ c → c ≤ 57 → digit_value c ≡ c - 48
figure_value c p q = grind (arith, nat_tests)

figures_weigh : (ds : List ℕ) → ((i : ℕ) → i < length ds → IsInRange 48 57 (get_or ds i 0)) → Figures 10 ds × (worth 10 ds ≡ weight ds)
figures_weigh [] f = (tt, refl)
figures_weigh (c ∷ cs) f =
    let here = f 0 (omega arith) in
    let v : digit_value c ≡ c - 48 = figure_value c here.0 here.1 in
    let rest = figures_weigh cs (λ i h. f (suc i) (omega arith)) in
    ((let k : digit_value c < 10 = omega (arith, here.1) in k, rest.0), ap₂ (λ d w. d * 10 ^ length cs + w) v rest.1)

pub decimals : Decimals
decimals n h =
    let figures = figures_weigh (decimal n) (digits_decimal own n h) in
    record {
      some = decimal_nonempty n h;
      each = figures.0;
      number = figures.1 ∙ digits_value-decimal own n h;
      first = λ e. elim (cases_lt 0 n) [
        | inl k ↦ let no : ⊥ = omega (arith, first_decimal n k h) in absurd no
        | inr k ↦ (omega arith, ap length (decimal_digit n (omega arith)))
      ];
    }

-- a byte that is shown as it is, and one that is not
as_it_is : (x : ℕ) → plain x ≡ true → escape x ≡ x ∷ []
as_it_is x e = cond-true (plain x) _ _ e

in_octal : (x : ℕ) → plain x ≡ false → escape x ≡ 92 ∷ (48 + x / 64) ∷ (48 + x / 8 % 8) ∷ (48 + x % 8) ∷ []
in_octal x e = cond-false (plain x) _ _ e

no_backslash : (x : ℕ) → plain x ≡ true → x ≡ 92 → ⊥
no_backslash x e h = true≢false (sym e ∙ ap plain h)

escape_apart : (x y : ℕ) (xs ys : List ℕ) → escape x ++ xs ≡ escape y ++ ys → (x ≡ y) × (xs ≡ ys)
escape_apart x y xs ys e =
    elim (cases_Bool (plain x)) [
      | inl p ↦ elim (cases_Bool (plain y)) [
        | inl q ↦
            let same : x ∷ xs ≡ y ∷ ys = sym (ap (λ z. z ++ xs) (as_it_is x p)) ∙ (e ∙ ap (λ z. z ++ ys) (as_it_is y q)) in
            (cc, cc)
        | inr q ↦
            let same : x ∷ xs ≡ 92 ∷ (48 + y / 64) ∷ (48 + y / 8 % 8) ∷ (48 + y % 8) ∷ ys =
            sym (ap (λ z. z ++ xs) (as_it_is x p)) ∙ (e ∙ ap (λ z. z ++ ys) (in_octal y q)) in
            let here : x ≡ 92 = cc in
            absurd (no_backslash x p here)
      ]
      | inr p ↦ elim (cases_Bool (plain y)) [
        | inl q ↦
            let same : 92 ∷ (48 + x / 64) ∷ (48 + x / 8 % 8) ∷ (48 + x % 8) ∷ xs ≡ y ∷ ys =
            sym (ap (λ z. z ++ xs) (in_octal x p)) ∙ (e ∙ ap (λ z. z ++ ys) (as_it_is y q)) in
            let here : y ≡ 92 = cc in
            absurd (no_backslash y q here)
        | inr q ↦
            let same : 92 ∷ (48 + x / 64) ∷ (48 + x / 8 % 8) ∷ (48 + x % 8) ∷ xs ≡ 92 ∷ (48 + y / 64) ∷ (48 + y / 8 % 8) ∷ (48 + y % 8) ∷ ys =
            sym (ap (λ z. z ++ xs) (in_octal x p)) ∙ (e ∙ ap (λ z. z ++ ys) (in_octal y q)) in
            let high : 48 + x / 64 ≡ 48 + y / 64 = cc in
            let middle : 48 + x / 8 % 8 ≡ 48 + y / 8 % 8 = cc in
            let low : 48 + x % 8 ≡ 48 + y % 8 = cc in
            (omega arith, cc)
      ]
    ]

hex_digit_apart : (c d : ℕ) → hex_digit c ≡ hex_digit d → c ≡ d
hex_digit_apart c d e = grind (arith, nat_tests)

pair_apart : (x y : ℕ) (xs ys : List ℕ) → hex_pair_of x ++ xs ≡ hex_pair_of y ++ ys → (x ≡ y) × (xs ≡ ys)
pair_apart x y xs ys e =
    let high : hex_digit (x / 16) ≡ hex_digit (y / 16) = cc in
    let low : hex_digit (x % 16) ≡ hex_digit (y % 16) = cc in
    let a = hex_digit_apart (x / 16) (y / 16) high in
    let b = hex_digit_apart (x % 16) (y % 16) low in
    (omega arith, cc)

-- what shows the elements one by one can be read back, if what shows one is not empty and never begins another
module _
    (f : ℕ → List ℕ)
    (some : (x : ℕ) → 0 < length (f x))
    (apart : (x y : ℕ) (xs ys : List ℕ) → f x ++ xs ≡ f y ++ ys → (x ≡ y) × (xs ≡ ys)) where
  not_none : (x : ℕ) (xs : List ℕ) → [] ≡ f x ++ xs → ⊥
  not_none x xs e = omega (arith, ap length e, length-append (f x) xs, some x)

  joined_apart : (a b : List ℕ) → flat_map f a ≡ flat_map f b → a ≡ b
  joined_apart [] [] e = refl
  joined_apart [] (y ∷ ys) e = absurd (not_none y (flat_map f ys) e)
  joined_apart (x ∷ xs) [] e = absurd (not_none x (flat_map f xs) (sym e))
  joined_apart (x ∷ xs) (y ∷ ys) e =
      let p = apart x y (flat_map f xs) (flat_map f ys) e in
      ap₂ ◌∷◌ p.0 (joined_apart xs ys p.1)

pub told_apart : ToldApart
told_apart = record {
  names = joined_apart escape escape_some escape_apart;
  strings = joined_apart hex_pair_of (λ x. omega arith) pair_apart;
}
