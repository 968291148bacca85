use Rattle.std.proofs.Common.{◌≡◌, ℕ, ◌<◌, Bool, true, false, cond, List, [], ◌∷◌, length, get_or, Some, None, Option, sym, refl, ◌∙◌, arith}
use Rattle.std.specs.List.{list_all}
use Rattle.std.proofs.lemmas.List.Folds.{list_all_at}
use Rattle.std.proofs.lemmas.Bool.{cond-true, cond-false}
use Rattle.source.specs.Bytes.{digit_value, digit_of}
use Rattle.source.specs.Hex.{paired}
use Rattle.eexec.specs.Eexec.{hexadecimal, digits_paired, hex_bytes_of}

-- a digit, or none
is_digit : (b d : ℕ) → Some d ≡ digit_of 16 b → (hexadecimal b ≡ true) × (d ≡ digit_value b)
is_digit b d q = by (hexadecimal b) q
  where
    by : (t : Bool) → Some d ≡ cond t (Some (digit_value b)) None → (t ≡ true) × (d ≡ digit_value b)
    by true q = (refl, cc)
    by false q = cc

no_digit : (b : ℕ) → None ≡ digit_of 16 b → hexadecimal b ≡ false
no_digit b q = by (hexadecimal b) q
  where
    by : (t : Bool) → None ≡ cond t (Some (digit_value b)) None → t ≡ false
    by true q = cc
    by false q = refl

-- four digits are two bytes
pub four_hex :
    (head : List ℕ) (p q r s : ℕ) → length head ≡ 4
    → Some p ≡ digit_of 16 (get_or head 0 0) → Some q ≡ digit_of 16 (get_or head 1 0)
    → Some r ≡ digit_of 16 (get_or head 2 0) → Some s ≡ digit_of 16 (get_or head 3 0)
    → Some (paired p q ∷ paired r s ∷ []) ≡ hex_bytes_of head
four_hex [] p q r s h i j k l = let no_way : ⊥ = omega arith in absurd no_way
four_hex (a ∷ []) p q r s h i j k l = let no_way : ⊥ = omega arith in absurd no_way
four_hex (a ∷ b ∷ []) p q r s h i j k l = let no_way : ⊥ = omega arith in absurd no_way
four_hex (a ∷ b ∷ c ∷ []) p q r s h i j k l = let no_way : ⊥ = omega arith in absurd no_way
four_hex (a ∷ b ∷ c ∷ d ∷ []) p q r s h i j k l =
    let t = is_digit a p i in
    let u = is_digit b q j in
    let v = is_digit c r k in
    let w = is_digit d s l in
    let all : list_all hexadecimal (a ∷ b ∷ c ∷ d ∷ []) ≡ true = simp (t.0, u.0, v.0, w.0) in
    let bytes : ◌≡◌ {A = Option (List ℕ)} (Some (paired p q ∷ paired r s ∷ [])) (Some (digits_paired (a ∷ b ∷ c ∷ d ∷ []))) = cc (t.1, u.1, v.1, w.1) in
    bytes ∙ sym (cond-true (list_all hexadecimal (a ∷ b ∷ c ∷ d ∷ [])) _ _ all)
four_hex (a ∷ b ∷ c ∷ d ∷ e ∷ head) p q r s h i j k l = let no_way : ⊥ = omega arith in absurd no_way

-- a byte among them that is no digit
pub other_among : (head : List ℕ) (i : ℕ) → i < length head → None ≡ digit_of 16 (get_or head i 0) → None ≡ hex_bytes_of head
other_among head i h q = sym (cond-false (list_all hexadecimal head) _ _ (list_all_at hexadecimal head i 0 h (no_digit (get_or head i 0) q)))
