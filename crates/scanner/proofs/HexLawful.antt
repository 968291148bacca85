use Rattle.std.proofs.Common.{◌≡◌, ℕ, ◌+◌, ◌/◌, ◌%◌, ◌<◌, ◌≤◌, false, eqb, ltb, List, [], ◌∷◌, ◌++◌, length, Some, None, sym, refl, ap, ◌∙◌, append_assoc, arith}
use Rattle.std.specs.List.{flat_map}
use Rattle.std.proofs.lemmas.List.{append-nil, length-append}
use Rattle.std.proofs.lemmas.Bool.{cond-true, cond-false, lt-ltb, ne_eqb}
use Rattle.std.proofs.lemmas.Bool.Decides.{nat_tests}
use Rattle.source.specs.declared.ending.Ending.{Ending}
use Rattle.source.specs.Bytes.{digit_value, hex_digit, hex_pair_of, Bytes}
use Rattle.source.specs.Hex.{paired, hex_byte_of, hex_turn_of}
use Rattle.source.specs.declared.hex.HexByte.TheVariants as byte
use Rattle.scanner.specs.declared.kinds.Kind.TheVariants.{HexString}
use Rattle.scanner.specs.HexStrings.{hex_turn, hex_closed, hex_at}
use Rattle.scanner.specs.Takes.{take_if_by}
use Rattle.scanner.specs.Tokens.{as_token, hex_token_of, less_by, less_of, unfit}
use Rattle.scanner.specs.HexLaw.{HexLaw}

-- a figure has its value, and is no <
figure_tells : (d : ℕ) → d < 16 → (digit_value (hex_digit d) ≡ d) × (eqb (hex_digit d) 60 ≡ false)
figure_tells d h = (grind (arith, nat_tests), grind (arith, nat_tests))

figure_byte : (d : ℕ) → d < 16 → hex_byte_of (hex_digit d) ≡ byte.Digit d
figure_byte d h =
    let v : digit_value (hex_digit d) ≡ d = (figure_tells d h).0 in
    cond-true (ltb (digit_value (hex_digit d)) 16) _ _ (lt-ltb (digit_value (hex_digit d)) 16 (omega arith)) ∙ ap byte.Digit v

-- two figures are a byte
pair_read :
    (b : ℕ) → b < 256 → (room : ℕ) (done rest : List ℕ) (e : Ending) → (length done ≡ room → ⊥)
    → hex_at room done None (hex_pair_of b ++ rest) e ≡ hex_at room (done ++ b ∷ []) None rest e
pair_read b h room done rest e ne =
    let high : b / 16 < 16 = omega arith in
    let low : b % 16 < 16 = omega arith in
    let whole : paired (b / 16) (b % 16) ≡ b = omega arith in
    ap (λ k. hex_turn (hex_turn_of None k) room done (hex_digit (b % 16) ∷ rest) (λ done half. hex_at room done half (hex_digit (b % 16) ∷ rest) e)) (figure_byte (b / 16) high)
    ∙ (ap (λ k. hex_turn (hex_turn_of (Some (b / 16)) k) room done rest (λ done half. hex_at room done half rest e)) (figure_byte (b % 16) low)
    ∙ (cond-false (eqb (length done) room) _ _ (ne_eqb (length done) room ne)
    ∙ ap (λ v. hex_at room (done ++ v ∷ []) None rest e) whole))

hex_spelled :
    (content : List ℕ) → Bytes content → (room : ℕ) (done behind : List ℕ) (e : Ending) → length done + length content ≤ room
    → hex_at room done None (flat_map hex_pair_of content ++ 62 ∷ behind) e ≡ hex_closed (done ++ content) behind
hex_spelled [] f room done behind e h = ap (λ d. hex_closed d behind) (sym (append-nil done))
hex_spelled (b ∷ bs) f room done behind e h =
    let ne : length done ≡ room → ⊥ = λ q. omega arith in
    let le : length (done ++ b ∷ []) + length bs ≤ room = omega (arith, length-append done (b ∷ [])) in
    pair_read b f.0 room done (flat_map hex_pair_of bs ++ 62 ∷ behind) e ne
    ∙ (hex_spelled bs f.1 room (done ++ b ∷ []) behind e le ∙ ap (λ d. hex_closed d behind) (append_assoc done (b ∷ []) bs))

-- no < stands first
less_hexed : (content : List ℕ) → Bytes content → (room : ℕ) (behind : List ℕ) (e : Ending)
    → less_of room (flat_map hex_pair_of content ++ 62 ∷ behind) e ≡ hex_token_of room (flat_map hex_pair_of content ++ 62 ∷ behind) e
less_hexed [] f room behind e = refl
less_hexed (b ∷ bs) f room behind e =
    let high : b / 16 < 16 = omega (arith, f.0) in
    let rest = hex_digit (b % 16) ∷ flat_map hex_pair_of bs ++ 62 ∷ behind in
    ap (λ t. less_by (take_if_by t (hex_digit (b / 16)) rest).answer (take_if_by t (hex_digit (b / 16)) rest).left (take_if_by t (hex_digit (b / 16)) rest).peeked (hex_token_of room (take_if_by t (hex_digit (b / 16)) rest).left e))
    (figure_tells (b / 16) high).1

pub hex_law : HexLaw
hex_law room content behind e fit h f =
    let r : 0 + length content ≤ room = omega arith in
    cond-false (unfit room) _ _ fit ∙ (less_hexed content f room behind e ∙ ap (as_token HexString) (hex_spelled content f room [] behind e r))
