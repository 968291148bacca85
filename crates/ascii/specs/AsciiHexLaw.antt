use Rattle.std.specs.Prelude.{◌≡◌, ℕ, ◌+◌, ◌*◌, true, false, ◌||◌, List, [], ◌∷◌, ◌++◌, map, nat_lt}
use Rattle.std.specs.List.{flat_map}
use Rattle.source.specs.declared.ending.Ending.{Ending}
use Rattle.source.specs.declared.ending.Ending.TheVariants.{Clean}
use Rattle.source.specs.Bytes.{white, unspaced, digit_value, halves, Bytes}
use Rattle.decoding.specs.Decoding.{gives, decode}
use Rattle.ascii.specs.AsciiHex.{hex_step}

-- a text of hexadecimal digits, of either case, and white bytes
abbrev pub Digital : List ℕ → Type 0
Digital [] = Unit {0}
Digital (b ∷ text) = (white b || nat_lt (digit_value b) 16 ≡ true) × Digital text

-- the digits of a text, the white bytes left out
abbrev pub shown : List ℕ → List ℕ
shown text = map digit_value (unspaced text)

-- two digits are a byte, and a lone last one is followed by 0
abbrev pub pairs : List ℕ → List ℕ
pairs [] = []
pairs (high ∷ []) = 16 * high ∷ []
pairs (high ∷ low ∷ ds) = (16 * high + low) ∷ pairs ds

pub record AsciiHexLaw : Type 0 where
  -- the digits of any bytes, with white bytes anywhere between them and > behind, give those bytes and leave what stands
  -- behind the >
  pub bytes :
      (bs text behind : List ℕ) (e : Ending) → Bytes bs → Digital text → shown text ≡ flat_map halves bs
      → decode hex_step tt [] (text ++ 62 ∷ behind) e ≡ gives bs Clean behind false
  -- any digits, also an odd number of them, give their pairs
  pub digits :
      (text behind : List ℕ) (e : Ending) → Digital text
      → decode hex_step tt [] (text ++ 62 ∷ behind) e ≡ gives (pairs (shown text)) Clean behind false
