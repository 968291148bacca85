use Rattle.std.specs.Prelude.{ℕ, ◌+◌, ◌-◌, ◌*◌, ◌%◌, ◌<◌, true, false, cond, List, [], ◌∷◌, Some, None, Ok, Err, Option, Result, ◌==◌, nat_le}
use Rattle.source.specs.declared.ending.Ending.{Ending}
use Rattle.source.specs.Reads.{Read}
use Rattle.source.specs.declared.fault.Fault.{Fault}
use Rattle.scanner.specs.declared.pieces.Piece.{Piece}
use Rattle.scanner.specs.declared.pieces.Piece.TheVariants as piece
use Rattle.scanner.specs.declared.pieces.Escape.{Escape}
use Rattle.scanner.specs.declared.pieces.Escape.TheVariants as escape
use Rattle.scanner.specs.declared.pieces.Opening.{Opening}
use Rattle.scanner.specs.declared.pieces.Opening.TheVariants as opening
use Rattle.source.specs.Bytes.{digit_of}
use Rattle.source.specs.Numbers.{unended}
use Rattle.scanner.specs.Takes.{take_if_of, with_answer}

-- what the byte b begins behind a backslash: a line end; n r t b f for 10 13 9 8 12; an octal digit; any other byte
-- stands for itself
abbrev pub meaning_of : ℕ → Escape
meaning_of b =
    cond (b == 10) escape.Feed
    (cond (b == 13) escape.Return
    (cond (b == 110) (escape.Stands 10)
    (cond (b == 114) (escape.Stands 13)
    (cond (b == 116) (escape.Stands 9)
    (cond (b == 98) (escape.Stands 8)
    (cond (b == 102) (escape.Stands 12)
    (cond (nat_le b 47) (escape.Stands b)
    (cond (nat_le b 55) (escape.Octal (b - 48)) (escape.Stands b)))))))))

-- the first digit of an octal number is below 8
abbrev pub OctalMeaning : Escape → Type 0
OctalMeaning (escape.Stands v) = Unit {0}
OctalMeaning escape.Feed = Unit {0}
OctalMeaning escape.Return = Unit {0}
OctalMeaning (escape.Octal d) = d < 8

-- what the byte b begins in a string
abbrev pub opening_of : ℕ → Opening
opening_of b =
    cond (b == 40) opening.Open
    (cond (b == 41) opening.Close
    (cond (b == 92) opening.Escape
    (cond (b == 13) opening.Return opening.Plain)))

abbrev pub octal_by : Option ℕ → ℕ → List ℕ → Read (Option ℕ)
octal_by None b bs = record { answer = None; left = b ∷ bs; peeked = true }
octal_by (Some d) b bs = record { answer = Some d; left = bs; peeked = false }

-- the next byte, taken if it is an octal digit, 0 to 7
abbrev pub octal_of : List ℕ → Ending → Read (Option ℕ)
octal_of [] e = record { answer = None; left = []; peeked = true }
octal_of (b ∷ bs) e = octal_by (digit_of 8 b) b bs

abbrev pub number_last : ℕ → ℕ → Option ℕ → ℕ
number_last d x None = 8 * d + x
number_last d x (Some y) = (64 * d + 8 * x + y) % 256

abbrev pub number_by : ℕ → Option ℕ → Read (Option ℕ) → Read (Option ℕ) → Read ℕ
number_by d None r s = with_answer d r
number_by d (Some x) r s = with_answer (number_last d x s.answer) s

-- the byte of an octal number whose first digit is d
abbrev pub number_of : ℕ → List ℕ → Ending → Read ℕ
number_of d rest e = number_by d (octal_of rest e).answer (octal_of rest e) (octal_of (octal_of rest e).left e)

abbrev pub plain : Read ℕ → Read (Result Piece Fault)
plain r = with_answer (Ok (piece.Plain r.answer)) r

abbrev pub escape_by : Escape → List ℕ → Ending → Read (Result Piece Fault)
escape_by (escape.Stands v) rest e = record { answer = Ok (piece.Plain v); left = rest; peeked = false }
escape_by escape.Feed rest e = record { answer = Ok piece.Nothing; left = rest; peeked = false }
escape_by escape.Return rest e = with_answer (Ok piece.Nothing) (take_if_of 10 rest e)
escape_by (escape.Octal d) rest e = plain (number_of d rest e)

-- what stands behind a backslash
abbrev pub escape_of : List ℕ → Ending → Read (Result Piece Fault)
escape_of [] e = record { answer = Err (unended e); left = []; peeked = true }
escape_of (b ∷ bs) e = escape_by (meaning_of b) bs e

abbrev pub piece_by : Opening → ℕ → List ℕ → Ending → Read (Result Piece Fault)
piece_by opening.Open b rest e = record { answer = Ok piece.Open; left = rest; peeked = false }
piece_by opening.Close b rest e = record { answer = Ok piece.Close; left = rest; peeked = false }
piece_by opening.Plain b rest e = record { answer = Ok (piece.Plain b); left = rest; peeked = false }
piece_by opening.Escape b rest e = escape_of rest e
piece_by opening.Return b rest e = with_answer (Ok (piece.Plain 10)) (take_if_of 10 rest e)

-- the next piece of a string
abbrev pub piece_of : List ℕ → Ending → Read (Result Piece Fault)
piece_of [] e = record { answer = Err (unended e); left = []; peeked = true }
piece_of (b ∷ bs) e = piece_by (opening_of b) b bs e
