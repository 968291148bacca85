use Rattle.std.proofs.Common.{◌≡◌, ℕ, Bool, true, false, eqb, List, [], ◌∷◌, Some, None, Ok, Option, sym, refl, ap, ◌∙◌, arith}
use Rattle.source.specs.declared.ending.Ending.{Ending}
use Rattle.source.specs.Bytes.{digit_of}
use Rattle.source.specs.Model.{Model}
use Rattle.source.specs.Laws.{Lawful}
use Rattle.source.specs.Reads.{Reads}
use Rattle.source.proofs.Calls.{Steady, steady_here, steady_next, steady_then, reads_then, reads_as}
use Rattle.scanner.specs.declared.pieces.Escape.{Escape}
use Rattle.scanner.specs.declared.pieces.Escape.TheVariants as escape
use Rattle.scanner.specs.declared.pieces.Opening.{Opening}
use Rattle.scanner.specs.declared.pieces.Opening.TheVariants as opening
use Rattle.scanner.specs.Takes.{byte_of, take_if_by, take_if_of}
use Rattle.scanner.specs.Pieces.{meaning_of, opening_of, octal_by, octal_of, number_last, number_by, number_of, escape_by, escape_of, piece_by, piece_of}

pub steady_octal : (rest : List ℕ) (e : Ending) → Steady rest (octal_of rest e).left (octal_of rest e).peeked
steady_octal [] e = steady_here []
steady_octal (b ∷ bs) e = at (digit_of 8 b)
  where
    at : (o : Option ℕ) → Steady (b ∷ bs) (octal_by o b bs).left (octal_by o b bs).peeked
    at None = steady_here (b ∷ bs)
    at (Some d) = steady_next b bs

pub steady_take_if : (wanted : ℕ) (rest : List ℕ) (e : Ending) → Steady rest (take_if_of wanted rest e).left (take_if_of wanted rest e).peeked
steady_take_if wanted [] e = steady_here []
steady_take_if wanted (b ∷ bs) e = at (eqb b wanted)
  where
    at : (o : Bool) → Steady (b ∷ bs) (take_if_by o b bs).left (take_if_by o b bs).peeked
    at false = steady_here (b ∷ bs)
    at true = steady_next b bs

pub steady_byte : (rest : List ℕ) (e : Ending) → Steady rest (byte_of rest e).left (byte_of rest e).peeked
steady_byte [] e = steady_here []
steady_byte (b ∷ bs) e = steady_next b bs

pub steady_number : (d : ℕ) (rest : List ℕ) (e : Ending) → Steady rest (number_of d rest e).left (number_of d rest e).peeked
steady_number d rest e = at (octal_of rest e).answer
  where
    at : (o : Option ℕ) → Steady rest (number_by d o (octal_of rest e) (octal_of (octal_of rest e).left e)).left (number_by d o (octal_of rest e) (octal_of (octal_of rest e).left e)).peeked
    at None = steady_octal rest e
    at (Some x) = steady_then (steady_octal rest e) (steady_octal (octal_of rest e).left e)

pub steady_escape : (rest : List ℕ) (e : Ending) → Steady rest (escape_of rest e).left (escape_of rest e).peeked
steady_escape [] e = steady_here []
steady_escape (b ∷ bs) e = at (meaning_of b)
  where
    at : (k : Escape) → Steady (b ∷ bs) (escape_by k bs e).left (escape_by k bs e).peeked
    at (escape.Stands v) = steady_next b bs
    at escape.Feed = steady_next b bs
    at escape.Return = steady_then (steady_next b bs) (steady_take_if 10 bs e)
    at (escape.Octal d) = steady_then (steady_next b bs) (steady_number d bs e)

pub steady_piece : (rest : List ℕ) (e : Ending) → Steady rest (piece_of rest e).left (piece_of rest e).peeked
steady_piece [] e = steady_here []
steady_piece (b ∷ bs) e = at (opening_of b)
  where
    at : (k : Opening) → Steady (b ∷ bs) (piece_by k b bs e).left (piece_by k b bs e).peeked
    at opening.Open = steady_next b bs
    at opening.Close = steady_next b bs
    at opening.Plain = steady_next b bs
    at opening.Escape = steady_then (steady_next b bs) (steady_escape bs e)
    at opening.Return = steady_then (steady_next b bs) (steady_take_if 10 bs e)

-- a byte that was needed and came stood first
pub byte_first : (rest : List ℕ) (e : Ending) (b : ℕ) → Ok b ≡ (byte_of rest e).answer → rest ≡ b ∷ (byte_of rest e).left
byte_first [] e b p = let z : ◌≡◌ {A = ℕ} 0 1 = cc in let no_way : ⊥ = omega arith in absurd no_way
byte_first (x ∷ rest) e b p = let q : b ≡ x = cc in ap (λ y. y ∷ rest) (sym q)

-- what a byte that was taken begins
pub escape_at : (rest : List ℕ) (e : Ending) (b : ℕ) (k : Escape) → Ok b ≡ (byte_of rest e).answer → k ≡ meaning_of b → escape_by k (byte_of rest e).left e ≡ escape_of rest e
escape_at rest e b k p q = ap (λ k. escape_by k (byte_of rest e).left e) q ∙ sym (ap (λ r. escape_of r e) (byte_first rest e b p))

pub piece_at : (rest : List ℕ) (e : Ending) (b : ℕ) (k : Opening) → Ok b ≡ (byte_of rest e).answer → k ≡ opening_of b → piece_by k b (byte_of rest e).left e ≡ piece_of rest e
piece_at rest e b k p q = ap (λ k. piece_by k b (byte_of rest e).left e) q ∙ sym (ap (λ r. piece_of r e) (byte_first rest e b p))

-- an octal number of a second digit, and a third or none
pub number_read :
    {H : Type 0} (m : Model H) (l : Lawful H m) (h h₁ h₂ : H) (d x : ℕ) (o : Option ℕ)
    → Reads m octal_of h (Some x) h₁ → Reads m octal_of h₁ o h₂ → Reads m (number_of d) h (number_last d x o) h₂
number_read m l h h₁ h₂ d x o a k =
    let b = reads_then m l octal_of h (Some x) h₁ octal_of o h₂ (steady_octal _ _) steady_octal a k in
    reads_as m l _ h o h₂ (number_of d) (number_last d x o) _ b
    (ap (λ o. number_by d o (octal_of (m.rest h) (m.ending h)) (octal_of (octal_of (m.rest h) (m.ending h)).left (m.ending h))) a.answer)
    (ap (number_last d x) b.answer) refl refl
