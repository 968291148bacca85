use Rattle.std.proofs.Common.{◌≡◌, ℕ, ◌+◌, ◌*◌, ◌/◌, ◌%◌, ◌<◌, ◌≤◌, [], ◌∷◌, ap, ◌∙◌, arith}
use native.Mathlib.Nat.{div-div-eq-div-mul}
use Rattle.ascii.specs.Ready4.{bytes4}
use Rattle.ascii.specs.Ascii85.{value85, Below85}
use Rattle.ascii.specs.Ascii85Law.{number4, digits85}

pub number_small : (a b c d : ℕ) → a < 256 → b < 256 → c < 256 → d < 256 → number4 a b c d ≤ 4294967295
number_small a b c d p q r s = omega arith

-- the digits of a number
pub digits_below : (v : ℕ) → v ≤ 4294967295 → Below85 (digits85 v)
digits_below v h = (omega arith, (omega arith, (omega arith, (omega arith, (omega arith, tt)))))

pub digits_worth : (v : ℕ) → value85 (digits85 v) ≡ v
digits_worth v =
    let a : v / 85 / 85 ≡ v / 7225 = div-div-eq-div-mul v 85 85 in
    let b : v / 7225 / 85 ≡ v / 614125 = div-div-eq-div-mul v 7225 85 in
    let c : v / 614125 / 85 ≡ v / 52200625 = div-div-eq-div-mul v 614125 85 in
    omega arith

-- the bytes of a number
pub number_bytes : (a b c d : ℕ) → a < 256 → b < 256 → c < 256 → d < 256 → bytes4 (number4 a b c d) ≡ a ∷ b ∷ c ∷ d ∷ []
number_bytes a b c d p q r s =
    let first : number4 a b c d / 16777216 ≡ a = omega arith in
    let second : number4 a b c d / 65536 % 256 ≡ b = omega arith in
    let third : number4 a b c d / 256 % 256 ≡ c = omega arith in
    let fourth : number4 a b c d % 256 ≡ d = omega arith in
    cc

-- what the first digits of a number are worth
two_digits : (v : ℕ) → v / 52200625 * 85 + v / 614125 % 85 ≡ v / 614125
two_digits v = let c : v / 614125 / 85 ≡ v / 52200625 = div-div-eq-div-mul v 614125 85 in omega arith

three_digits : (v : ℕ) → (v / 52200625 * 85 + v / 614125 % 85) * 85 + v / 7225 % 85 ≡ v / 7225
three_digits v =
    let b : v / 7225 / 85 ≡ v / 614125 = div-div-eq-div-mul v 7225 85 in let c = two_digits v in omega arith

four_digits : (v : ℕ) → ((v / 52200625 * 85 + v / 614125 % 85) * 85 + v / 7225 % 85) * 85 + v / 85 % 85 ≡ v / 85
four_digits v =
    let b : v / 85 / 85 ≡ v / 7225 = div-div-eq-div-mul v 85 85 in let c = three_digits v in omega arith

low_byte : (q b : ℕ) → b < 256 → (q * 256 + b) % 256 ≡ b
low_byte q b h = omega arith

-- a short group, filled up with the highest digits, begins with its bytes
pub short_one : (a : ℕ) → a < 256
    → let v = number4 a 0 0 0 in let w = value85 (v / 52200625 ∷ v / 614125 % 85 ∷ 84 ∷ 84 ∷ 84 ∷ []) in
    (w ≤ 4294967295) × (w / 16777216 ≡ a)
short_one a p = let q = two_digits (number4 a 0 0 0) in (omega arith, omega arith)

pub short_two : (a b : ℕ) → a < 256 → b < 256
    → let v = number4 a b 0 0 in let w = value85 (v / 52200625 ∷ v / 614125 % 85 ∷ v / 7225 % 85 ∷ 84 ∷ 84 ∷ []) in
    (w ≤ 4294967295) × (w / 16777216 ≡ a) × (w / 65536 % 256 ≡ b)
short_two a b p q =
    let r = three_digits (number4 a b 0 0) in
    let v = number4 a b 0 0 in
    let w = value85 (v / 52200625 ∷ v / 614125 % 85 ∷ v / 7225 % 85 ∷ 84 ∷ 84 ∷ []) in
    let h : w / 65536 ≡ a * 256 + b = omega arith in
    (omega arith, omega arith, ap (λ x. x % 256) h ∙ low_byte a b q)

pub short_three : (a b c : ℕ) → a < 256 → b < 256 → c < 256
    → let v = number4 a b c 0 in let w = value85 (v / 52200625 ∷ v / 614125 % 85 ∷ v / 7225 % 85 ∷ v / 85 % 85 ∷ 84 ∷ []) in
    (w ≤ 4294967295) × (w / 16777216 ≡ a) × (w / 65536 % 256 ≡ b) × (w / 256 % 256 ≡ c)
short_three a b c p q r =
    let s = four_digits (number4 a b c 0) in
    let v = number4 a b c 0 in
    let w = value85 (v / 52200625 ∷ v / 614125 % 85 ∷ v / 7225 % 85 ∷ v / 85 % 85 ∷ 84 ∷ []) in
    let h : w / 65536 ≡ a * 256 + b = omega arith in
    let k : w / 256 ≡ (a * 256 + b) * 256 + c = omega arith in
    (omega arith, omega arith, ap (λ x. x % 256) h ∙ low_byte a b q, ap (λ x. x % 256) k ∙ low_byte (a * 256 + b) c r)
