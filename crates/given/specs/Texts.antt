-- What the texts of a case say.
use Rattle.std.specs.Prelude.{◌≡◌, ℕ, ◌==◌, ◌-◌, ◌%◌, ◌^◌, ◌&&◌, nat_lt, if◌then◌else◌, List, [], ◌∷◌, ◌++◌, length, take, map, codes, bytes_eq, Option, Some, None, is_some, MatchOption, option_map, option_and_then}
use Rattle.std.specs.Option.{option_map_or}
use Rattle.std.specs.Result.{result_ok}
use Rattle.std.specs.List.{position_or_len, before_first, after_first, slice_split, repeat}
use Rattle.std.specs.Str.{all_ascii_digits}
use Rattle.std.specs.Str.Parse.{without_leading_plus, digits_value, IsParseIntError}
use Rattle.std.specs.declared.num.IntErrorKind.{IntErrorKind}
use Rattle.std.specs.declared.num.IntErrorKind.TheVariants.{Empty, InvalidDigit, PosOverflow, NegOverflow, Zero}
use Rattle.hex.specs.Hex.{decode_of}
use Rattle.hex.specs.declared.error.FromHexError.{FromHexError}
use Rattle.hex.specs.declared.error.FromHexError.TheVariants as hex_error
use Rattle.source.specs.Numbers.{damage_numbered}
use Rattle.source.specs.declared.ending.Damage.{Damage}
use Rattle.source.specs.declared.ending.Ending.{Ending}
use Rattle.source.specs.declared.ending.Ending.TheVariants.{Clean, Damaged}
use Rattle.given.specs.declared.reading.ReadError.{ReadError}
use Rattle.given.specs.declared.reading.ReadError.TheVariants.{NoEnding, NoDamage, NoNumber, LoneDigit, NoDigit, OutOfMemory}

-- the number that decimal digits write, if it is below a limit; none without a digit, and none if another byte stands there
abbrev pub numeral_of : ℕ → List ℕ → Option ℕ
numeral_of limit digits =
    if nat_lt 0 (length digits) && (all_ascii_digits digits && nat_lt (digits_value 10 digits) limit)
    then Some (digits_value 10 digits) else None

-- the same where a plus may stand before the digits
abbrev pub number_of : ℕ → List ℕ → Option ℕ
number_of limit text = numeral_of limit (without_leading_plus text)

-- what stands on either side of the first byte c of a text, if it has one
abbrev pub sides : ℕ → List ℕ → Option (List ℕ × List ℕ)
sides c text =
    if position_or_len (λ b. b == c) text == length text then None
    else Some (before_first (λ b. b == c) text, after_first (λ b. b == c) text)

-- the damage whose number a text writes by two figures
abbrev pub damage_of : List ℕ → Option Damage
damage_of text = if length text == 2 then option_and_then (λ n. result_ok (damage_numbered n)) (number_of 256 text) else None

-- the ending of a damage's number and a depth, which is below 256
abbrev pub damaged_of : List ℕ × List ℕ → Option Ending
damaged_of p = option_and_then (λ damage. option_map (Damaged damage) (number_of 256 p.1)) (damage_of p.0)

-- the ending that a text names: `clean`, or a damage's number, a slash and a depth
abbrev pub ending_of : List ℕ → Option Ending
ending_of text = if bytes_eq text (codes "clean") then Some Clean else option_and_then damaged_of (sides 47 text)

-- the bytes of pairs of hexadecimal digits, of either case
abbrev pub pairs_of : List ℕ → Option (List ℕ)
pairs_of text = result_ok (decode_of text)

-- the bytes of a text and of a number, which says how often those of its pairs of digits come; none if never, whatever the text
abbrev pub repeated_of : List ℕ × List ℕ → Option (List ℕ)
repeated_of p =
    option_and_then (λ n. if n == 0 then Some [] else option_map (λ once. repeat n once) (pairs_of p.0)) (number_of (2 ^ 32) p.1)

-- the bytes of a part: pairs of digits, which come once, or as often as the number behind an `x` says
abbrev pub part_of : List ℕ → Option (List ℕ)
part_of text = option_map_or repeated_of (sides 120 text) (pairs_of text)

-- one after another, if each is there
abbrev pub joined : List (Option (List ℕ)) → Option (List ℕ)
joined [] = Some []
joined (part ∷ parts) = option_and_then (λ front. option_map (λ back. front ++ back) (joined parts)) part

-- the parts of a text, between which its points stand
abbrev pub parts_of : List ℕ → List (List ℕ)
parts_of text = slice_split (λ b. b == 46) text

-- the bytes that a text gives: none for `-`, else those of its parts
abbrev pub bytes_of : List ℕ → Option (List ℕ)
bytes_of text =
    if bytes_eq text (codes "-") then Some []
    else joined (map part_of (parts_of text))

-- what is said of a text that is no number: that it is empty, where it is; else that a byte of it is no digit, where it is no
-- numeral, or that it is too large, which the library does not pin to numerals
abbrev pub WhyNoNumber : List ℕ → ReadError → Type 0
WhyNoNumber text e = (kind : IntErrorKind) × (e ≡ NoNumber kind) × IsParseIntError 10 text (without_leading_plus text) PosOverflow kind

-- why a damage's number and a depth name no ending: the number is looked at first
abbrev pub WhyNoDamaged : List ℕ × List ℕ → ReadError → Type 0
WhyNoDamaged p e = MatchOption (damage_of p.0) (e ≡ NoDamage) (λ damage. WhyNoNumber p.1 e)

-- why a text names no ending
abbrev pub WhyNoEnding : List ℕ → ReadError → Type 0
WhyNoEnding text e = MatchOption (sides 47 text) (e ≡ NoEnding) (λ p. WhyNoDamaged p e)

-- a text without the last of an odd number of bytes
abbrev pub whole_pairs : List ℕ → List ℕ
whole_pairs text = take (length text - length text % 2) text

-- why a text is no pairs of digits: behind pairs that are good a byte stands alone, or else a pair has a byte that is no digit
abbrev pub why_no_pairs : List ℕ → ReadError
why_no_pairs text = if is_some (pairs_of (whole_pairs text)) then LoneDigit else NoDigit

-- why a text and a number give no bytes: the number is looked at first
abbrev pub WhyNotRepeated : List ℕ × List ℕ → ReadError → Type 0
WhyNotRepeated p e = MatchOption (number_of (2 ^ 32) p.1) (WhyNoNumber p.1 e) (λ n. e ≡ why_no_pairs p.0)

-- why a part gives no bytes
abbrev pub WhyNoPart : List ℕ → ReadError → Type 0
WhyNoPart part e = MatchOption (sides 120 part) (e ≡ why_no_pairs part) (λ p. WhyNotRepeated p e)

-- why the first of these parts that gives no bytes gives none
abbrev pub FirstBad : List (List ℕ) → ReadError → Type 0
FirstBad [] e = ⊥
FirstBad (part ∷ parts) e = MatchOption (part_of part) (WhyNoPart part e) (λ more. FirstBad parts e)

-- why a text gives no bytes
abbrev pub WhyNoBytes : List ℕ → ReadError → Type 0
WhyNoBytes text e = FirstBad (parts_of text) e

-- what was read, if it was, now stands behind what stood there before
abbrev pub Adds : Option (List ℕ) → List ℕ → List ℕ → Type 0
Adds more before after = option_map (λ back. before ++ back) more ≡ Some after

-- what an error of one pair of digits is here
abbrev pub why_no_hex : FromHexError → ReadError
why_no_hex hex_error.OutOfMemory = OutOfMemory
why_no_hex hex_error.OddLength = LoneDigit
why_no_hex _ = NoDigit

-- what the library prints where it reads no number
abbrev pub number_text : IntErrorKind → List ℕ
number_text Empty = codes "cannot parse integer from empty string"
number_text InvalidDigit = codes "invalid digit found in string"
number_text PosOverflow = codes "number too large to fit in target type"
number_text NegOverflow = codes "number too small to fit in target type"
number_text Zero = codes "number would be zero for non-zero type"

-- an error as it is printed
abbrev pub error_text : ReadError → List ℕ
error_text NoEnding = codes "no ending"
error_text NoDamage = codes "no damage"
error_text (NoNumber kind) = number_text kind
error_text LoneDigit = codes "a lone digit"
error_text NoDigit = codes "no hexadecimal digit"
error_text OutOfMemory = codes "memory allocation failed"
