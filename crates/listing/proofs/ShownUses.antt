use Rattle.std.proofs.Common.{◌≡◌, ℕ, zero, suc, ◌*◌, ◌/◌, ◌%◌, ◌<◌, false, List, [], ◌∷◌, length, ℤ, pos, negsuc, decimal, refl, sym, ◌∙◌, arith}
use Rattle.std.specs.Prelude.{◌==◌}
use Rattle.std.specs.Fmt.{digit_glyph, digits, digits_onto, signed_decimal}
use Rattle.std.proofs.lemmas.Bool.{cond_both, ne_eqb}
use Rattle.std.proofs.lemmas.List.{length-append}
use Rattle.listing.specs.Shown.{plain, escape, escaped, hexadecimal}

pub length_hexadecimal : (xs : List ℕ) → length (hexadecimal xs) ≡ 2 * length xs
length_hexadecimal [] = refl
length_hexadecimal (x ∷ xs) = omega (arith, length_hexadecimal xs)

pub escape_some : (x : ℕ) → 0 < length (escape x)
escape_some x = cond_both (plain x) _ _ (λ z. 0 < length z) (λ e. omega arith) (λ e. omega arith)

some : (n : ℕ) → 0 < n → (n == 0) ≡ false
some n h = ne_eqb n 0 (λ e. omega arith)

-- a name shows something where it has a byte, and a string where it has one
pub escaped_none : (xs : List ℕ) → (length xs == 0) ≡ (length (escaped xs) == 0)
escaped_none [] = refl
escaped_none (x ∷ xs) =
    some (length (x ∷ xs)) (omega arith) ∙ sym (some (length (escaped (x ∷ xs))) (omega (arith, escape_some x, length-append (escape x) (escaped xs))))

pub hexadecimal_none : (xs : List ℕ) → (length xs == 0) ≡ (length (hexadecimal xs) == 0)
hexadecimal_none [] = refl
hexadecimal_none (x ∷ xs) = some (length (x ∷ xs)) (omega arith) ∙ sym (some (length (hexadecimal (x ∷ xs))) (omega arith))

onto_some : (k n : ℕ) (back : List ℕ) → 0 < length back → 0 < length (digits_onto k 10 false n back)
onto_some zero n back h = h
onto_some (suc k) n back h =
    cond_both (n / 10 == 0) _ _ (λ z. 0 < length z) (λ e. omega arith) (λ e. onto_some k (n / 10) _ (omega arith))

onto_more : (k n : ℕ) → 0 < length (digits_onto (suc k) 10 false n [])
onto_more k n =
    cond_both (n / 10 == 0) _ _ (λ z. 0 < length z) (λ e. omega arith)
    (λ e. onto_some k (n / 10) (digit_glyph false (n % 10) ∷ []) (omega arith))

decimal_some : (n : ℕ) → 0 < length (decimal n)
unfolding digits
decimal_some n = onto_more 63 n

-- an integer always shows something
pub signed_some : (z : ℤ) → false ≡ (length (signed_decimal z) == 0)
signed_some (pos n) = sym (some (length (decimal n)) (decimal_some n))
signed_some (negsuc n) = sym (some (length (signed_decimal (negsuc n))) (omega arith))
