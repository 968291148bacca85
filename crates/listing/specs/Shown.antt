use Rattle.std.specs.Prelude.{ℕ, ◌+◌, ◌/◌, ◌%◌, Bool, cond, not, ◌&&◌, List, [], ◌∷◌, ◌==◌, nat_le, ◌^◌, ◌<◌, ⊤}
use lib.Signed.{mag}
use Rattle.std.specs.List.{flat_map}
use Rattle.std.specs.Fmt.{signed_decimal}
use Rattle.source.specs.Bytes.{hex_pair_of}
use Rattle.scanner.specs.declared.kinds.Kind.{Kind}
use Rattle.scanner.specs.declared.kinds.Kind.TheVariants as kind
use Rattle.scanner.specs.declared.kinds.Token.{Token}
use Rattle.listing.specs.declared.contents.Form.{Form}
use Rattle.listing.specs.declared.contents.Form.TheVariants.{Nothing, Escaped, Decimal, Plain, Hexadecimal}

-- the bytes of a name that are shown as they are: 33 to 126, without the backslash
abbrev pub plain : ℕ → Bool
plain b = nat_le 33 b && (nat_le b 126 && not (b == 92))

-- any other is a backslash and three octal digits
abbrev pub escape : ℕ → List ℕ
escape b = cond (plain b) (b ∷ []) (92 ∷ (48 + b / 64) ∷ (48 + b / 8 % 8) ∷ (48 + b % 8) ∷ [])

-- a name as it is shown
abbrev pub escaped : List ℕ → List ℕ
escaped = flat_map escape

-- a string as it is shown: two hexadecimal digits for each byte
abbrev pub hexadecimal : List ℕ → List ℕ
hexadecimal = flat_map hex_pair_of

-- how the content of a token of this kind is shown
abbrev pub form_of : Kind → Form
form_of kind.End = Nothing
form_of kind.Name = Escaped
form_of kind.Literal = Escaped
form_of kind.Immediate = Escaped
form_of (kind.Integer value) = Decimal value
form_of kind.Real = Plain
form_of kind.String = Hexadecimal
form_of kind.HexString = Hexadecimal
form_of kind.OpenArray = Nothing
form_of kind.CloseArray = Nothing
form_of kind.OpenProcedure = Nothing
form_of kind.CloseProcedure = Nothing
form_of kind.OpenDictionary = Nothing
form_of kind.CloseDictionary = Nothing

abbrev pub shown_by : Form → List ℕ → List ℕ
shown_by Nothing content = []
shown_by Escaped content = escaped content
shown_by (Decimal value) content = signed_decimal value
shown_by Plain content = content
shown_by Hexadecimal content = hexadecimal content

abbrev pub shown : Token → List ℕ → List ℕ
shown token content = shown_by (form_of token.kind) content

-- a value that is shown has 32 bits
abbrev pub Small : Form → Type 0
Small Nothing = ⊤
Small Escaped = ⊤
Small (Decimal value) = mag value < 2 ^ 32
Small Plain = ⊤
Small Hexadecimal = ⊤
