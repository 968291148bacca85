use Rattle.std.proofs.Common.{◌≡◌, ℕ, ◌+◌, ◌*◌, ◌/◌, ◌%◌, ◌^◌, ◌<◌, ◌≤◌, Bool, true, false, cond, List, [], ◌∷◌, ◌++◌, length, Some, None, decimal, Option, Result, refl, sym, subst, arith}
use lib.Signed.{mag}
use Rattle.std.specs.Prelude.{IsOk}
use Rattle.std.proofs.lemmas.Fmt.{length-decimal-le, length_signed_le}
use Rattle.std.proofs.lemmas.List.{length-append}
use Rattle.scanner.specs.declared.kinds.Kind.{Kind}
use Rattle.scanner.specs.declared.kinds.Kind.TheVariants as kind
use Rattle.listing.specs.declared.contents.Form.{Form}
use Rattle.listing.specs.declared.contents.Form.TheVariants.{Nothing, Escaped, Decimal, Plain, Hexadecimal}
use Rattle.listing.specs.declared.refusal.Refusal.{Refusal}
use Rattle.listing.specs.Lines.{Prints, spaced, blank, newline, fault_text, token_by}
use Rattle.listing.specs.Shown.{plain, escape, escaped, shown_by, Small}
use Rattle.listing.specs.Words.{kind_word}
use Rattle.listing.proofs.LineUses.{length_fault}
use Rattle.listing.proofs.ShownUses.{length_hexadecimal}

-- a line that fits is not refused
pub prints_ok : (text area : List ℕ) (r : Result ℕ Refusal) (area' : List ℕ) → Prints text area r area' → length text ≤ length area → IsOk r
prints_ok text area r area' p h = rw (p.fits h).0 refl

-- how long a line is at most

escape_short : (b : ℕ) → length (escape b) ≤ 4
escape_short b = at (plain b)
  where
    at : (t : Bool) → length (cond t (b ∷ []) (92 ∷ (48 + b / 64) ∷ (48 + b / 8 % 8) ∷ (48 + b % 8) ∷ [])) ≤ 4
    at true = omega arith
    at false = omega arith

escaped_short : (xs : List ℕ) → length (escaped xs) ≤ 4 * length xs
escaped_short [] = omega arith
escaped_short (b ∷ bs) = omega (arith, length-append (escape b) (escaped bs), escape_short b, escaped_short bs)

shown_short : (f : Form) (content : List ℕ) → Small f → length (shown_by f content) ≤ 4 * length content + 11
shown_short Nothing content h = omega arith
shown_short Escaped content h = omega (arith, escaped_short content)
shown_short (Decimal v) content h =
    omega (arith, length_signed_le 10 v (let k : mag v + 1 < 10000000000 = omega arith in k) (let k : mag v < 9223372036854775808 = omega arith in k))
shown_short Plain content h = omega arith
shown_short Hexadecimal content h = omega (arith, length_hexadecimal content)

spaced_short : (xs : List ℕ) → length (spaced xs) ≤ length xs + 1
spaced_short [] = omega arith
spaced_short (b ∷ bs) = omega arith

abbrev WordShort : Option (List ℕ) → Type 0
WordShort None = Unit {0}
WordShort (Some w) = length w ≤ 9

word_short : (k : Kind) → WordShort (kind_word k)
word_short kind.End = tt
word_short kind.Name = omega arith
word_short kind.Literal = omega arith
word_short kind.Immediate = omega arith
word_short (kind.Integer v) = omega arith
word_short kind.Real = omega arith
word_short kind.String = omega arith
word_short kind.HexString = omega arith
word_short kind.OpenArray = omega arith
word_short kind.CloseArray = omega arith
word_short kind.OpenProcedure = omega arith
word_short kind.CloseProcedure = omega arith
word_short kind.OpenDictionary = omega arith
word_short kind.CloseDictionary = omega arith

line_short : (w : Option (List ℕ)) (level : ℕ) (xs : List ℕ) → WordShort w → level < 256 → length (token_by w level xs) ≤ length xs + 21
line_short None level xs h k = omega arith
line_short (Some w) level xs h k =
    omega (
      arith,
      length-append (((decimal level ++ blank) ++ w) ++ spaced xs) newline,
      length-append ((decimal level ++ blank) ++ w) (spaced xs),
      length-append (decimal level ++ blank) w,
      length-append (decimal level) blank,
      length-decimal-le 3 level (omega arith) (omega arith) (omega arith),
      spaced_short xs,
    )

-- the line of a token whose word is that of its kind
pub token_short :
    (k : Kind) (word : List ℕ) (level : ℕ) (f : Form) (content : List ℕ) → Some word ≡ kind_word k → level < 256 → Small f
    → length (token_by (Some word) level (shown_by f content)) ≤ 4 * length content + 32
token_short k word level f content e l h =
    omega (arith, line_short (Some word) level (shown_by f content) (subst WordShort (sym e) (word_short k)) l, shown_short f content h)

pub fault_short : (number depth : ℕ) → number < 256 → depth < 256 → length (fault_text number depth) ≤ 32
fault_short number depth n d =
    omega (
      arith,
      length_fault number depth,
      length-decimal-le 3 number (omega arith) (let k : number < 1000 = omega arith in k) (let k : number < 2 ^ 64 = omega arith in k),
      length-decimal-le 3 depth (omega arith) (let k : depth < 1000 = omega arith in k) (let k : depth < 2 ^ 64 = omega arith in k),
    )
