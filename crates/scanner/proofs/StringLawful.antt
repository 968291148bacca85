use Rattle.std.proofs.Common.{◌≡◌, ℕ, zero, suc, ◌+◌, ◌<◌, ◌≤◌, Bool, true, false, cond, eqb, List, [], ◌∷◌, ◌++◌, length, Ok, Result, sym, refl, ap, ◌∙◌, subst, ⊎_elim, append_assoc, arith}
use Rattle.std.specs.List.{flat_map}
use Rattle.std.proofs.lemmas.List.{append-nil, length-append}
use Rattle.std.proofs.lemmas.Bool.{cond-false, ne_eqb, cases_eq}
use Rattle.source.specs.declared.ending.Ending.{Ending}
use Rattle.source.specs.declared.fault.Fault.{Fault}
use Rattle.source.specs.Reads.{Read}
use Rattle.scanner.specs.declared.failure.Failure.{Failure}
use Rattle.scanner.specs.declared.kinds.Kind.TheVariants.{String}
use Rattle.scanner.specs.declared.pieces.Opening.TheVariants as opening
use Rattle.scanner.specs.declared.pieces.Piece.{Piece}
use Rattle.scanner.specs.declared.pieces.Piece.TheVariants.{Plain}
use Rattle.scanner.specs.Pieces.{opening_of, piece_by, piece_of}
use Rattle.scanner.specs.Scan.{Scan}
use Rattle.scanner.specs.Strings.{string_piece, string_at, string_of}
use Rattle.scanner.specs.Tokens.{as_token, unfit}
use Rattle.scanner.specs.StringLaw.{spelled, StringLaw}

abbrev plain_piece : ℕ → List ℕ → Read (Result Piece Fault)
plain_piece b rest = record { answer = Ok (Plain b); left = rest; peeked = false }

abbrev Spelled : ℕ → Type 0
Spelled b = (rest : List ℕ) (e : Ending) → piece_of (spelled b ++ rest) e ≡ plain_piece b rest

itself : (b : ℕ) → (b ≡ 40 → ⊥) → (b ≡ 41 → ⊥) → (b ≡ 92 → ⊥) → (b ≡ 10 → ⊥) → (b ≡ 13 → ⊥) → Spelled b
itself b opens closes slash feed return rest e =
    let s : spelled b ≡ b ∷ [] =
    cond-false (eqb b 40) _ _ (ne_eqb b 40 opens) ∙ (cond-false (eqb b 41) _ _ (ne_eqb b 41 closes) ∙ (cond-false (eqb b 92) _ _ (ne_eqb b 92 slash)
    ∙ (cond-false (eqb b 10) _ _ (ne_eqb b 10 feed) ∙ cond-false (eqb b 13) _ _ (ne_eqb b 13 return)))) in
    let k : opening_of b ≡ opening.Plain =
    cond-false (eqb b 40) _ _ (ne_eqb b 40 opens) ∙ (cond-false (eqb b 41) _ _ (ne_eqb b 41 closes) ∙ (cond-false (eqb b 92) _ _ (ne_eqb b 92 slash)
    ∙ cond-false (eqb b 13) _ _ (ne_eqb b 13 return))) in
    ap (λ s. piece_of (s ++ rest) e) s ∙ ap (λ k. piece_by k b rest e) k

-- a byte that is written is a piece
piece_spelled : (b : ℕ) → Spelled b
piece_spelled b = ⊎_elim
    (λ (e : b ≡ 40). subst Spelled (sym e) (λ rest f. refl))
    (λ p. ⊎_elim
    (λ (e : b ≡ 41). subst Spelled (sym e) (λ rest f. refl))
    (λ q. ⊎_elim
    (λ (e : b ≡ 92). subst Spelled (sym e) (λ rest f. refl))
    (λ r. ⊎_elim
    (λ (e : b ≡ 10). subst Spelled (sym e) (λ rest f. refl))
    (λ s. ⊎_elim
    (λ (e : b ≡ 13). subst Spelled (sym e) (λ rest f. refl))
    (λ t. itself b p q r s t)
    (cases_eq b 13)) (cases_eq b 10)) (cases_eq b 92)) (cases_eq b 41)) (cases_eq b 40)

either_long : (t : Bool) (x y : List ℕ) → 1 ≤ length x → 1 ≤ length y → 1 ≤ length (cond t x y)
either_long true x y p q = p
either_long false x y p q = q

spelled_long : (b : ℕ) → 1 ≤ length (spelled b)
spelled_long b =
    either_long (eqb b 40) _ _ (omega arith) (either_long (eqb b 41) _ _ (omega arith) (either_long (eqb b 92) _ _ (omega arith)
    (either_long (eqb b 10) _ _ (omega arith) (either_long (eqb b 13) _ (b ∷ []) (omega arith) (omega arith)))))

joined_long : (content : List ℕ) → length content ≤ length (flat_map spelled content)
joined_long [] = omega arith
joined_long (b ∷ bs) = omega (arith, joined_long bs, spelled_long b, length-append (spelled b) (flat_map spelled bs))

abbrev closed : List ℕ → List ℕ → Scan (Result ℕ Failure)
closed content left = record { answer = Ok (length content); content = content; left = left; peeked = false }

string_spelled :
    (content : List ℕ) (k room : ℕ) (done behind : List ℕ) (e : Ending) → length content < k → length done + length content ≤ room
    → string_at k room done 0 (flat_map spelled content ++ 41 ∷ behind) e ≡ closed (done ++ content) behind
string_spelled content zero room done behind e h r = let no_way : ⊥ = omega arith in absurd no_way
string_spelled [] (suc k) room done behind e h r = ap (λ d. closed d behind) (sym (append-nil done))
string_spelled (b ∷ bs) (suc k) room done behind e h r =
    let rest = flat_map spelled bs ++ 41 ∷ behind in
    let p : piece_of ((spelled b ++ flat_map spelled bs) ++ 41 ∷ behind) e ≡ plain_piece b rest
    = ap (λ l. piece_of l e) (append_assoc (spelled b) (flat_map spelled bs) (41 ∷ behind)) ∙ piece_spelled b rest e in
    let lt : length bs < k = omega arith in
    let ne : length done ≡ room → ⊥ = λ q. omega arith in
    let le : length (done ++ b ∷ []) + length bs ≤ room = omega (arith, length-append done (b ∷ [])) in
    ap (λ (p : Read (Result Piece Fault)). string_piece p.answer room done 0 p.left p.peeked (λ d n. string_at k room d n p.left e)) p
    ∙ (cond-false (eqb (length done) room) _ (string_at k room (done ++ b ∷ []) 0 rest e) (ne_eqb (length done) room ne)
    ∙ (string_spelled bs k room (done ++ b ∷ []) behind e lt le ∙ ap (λ d. closed d behind) (append_assoc done (b ∷ []) bs)))

pub string_law : StringLaw
string_law room content behind e fit h =
    let rest = flat_map spelled content ++ 41 ∷ behind in
    let k : length content < suc (length rest) = omega (arith, joined_long content, length-append (flat_map spelled content) (41 ∷ behind)) in
    let r : 0 + length content ≤ room = omega arith in
    cond-false (unfit room) _ (as_token String (string_of room rest e)) fit ∙ ap (as_token String) (string_spelled content (suc (length rest)) room [] behind e k r)
