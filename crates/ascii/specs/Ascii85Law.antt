use Rattle.std.specs.Prelude.{◌≡◌, ℕ, ◌+◌, ◌*◌, ◌/◌, ◌%◌, ◌<◌, false, List, [], ◌∷◌, ◌++◌, map, take}
use Rattle.source.specs.declared.ending.Ending.{Ending}
use Rattle.source.specs.declared.ending.Ending.TheVariants.{Clean}
use Rattle.source.specs.Bytes.{unspaced, Bytes}
use Rattle.decoding.specs.Decoding.{gives, decode}
use Rattle.ascii.specs.Ascii85.{a85_step}

-- the number of four bytes, the highest first
abbrev pub number4 : ℕ → ℕ → ℕ → ℕ → ℕ
number4 a b c d = ((a * 256 + b) * 256 + c) * 256 + d

-- the five digits of a number in base 85, the highest first
abbrev pub digits85 : ℕ → List ℕ
digits85 v = v / 52200625 ∷ v / 614125 % 85 ∷ v / 7225 % 85 ∷ v / 85 % 85 ∷ v % 85 ∷ []

-- digits as they are written, from ! for 0 to u for 84
abbrev pub figures : List ℕ → List ℕ
figures ds = map (λ d. 33 + d) ds

-- bytes and their encoding: four bytes are five figures, and four zero bytes may also be z; one to three last bytes are
-- filled up with zero bytes to four, and of the five figures one more than they are is written
pub data Encoded : List ℕ → List ℕ → Type 0 where
  none : Encoded [] []
  one : (a : ℕ) → a < 256 → Encoded (a ∷ []) (figures (take 2 (digits85 (number4 a 0 0 0))))
  two : (a b : ℕ) → a < 256 → b < 256 → Encoded (a ∷ b ∷ []) (figures (take 3 (digits85 (number4 a b 0 0))))
  three : (a b c : ℕ) → a < 256 → b < 256 → c < 256 → Encoded (a ∷ b ∷ c ∷ []) (figures (take 4 (digits85 (number4 a b c 0))))
  four :
      (a b c d : ℕ) (bytes text : List ℕ) → a < 256 → b < 256 → c < 256 → d < 256 → Encoded bytes text
      → Encoded (a ∷ b ∷ c ∷ d ∷ bytes) (figures (digits85 (number4 a b c d)) ++ text)
  zeros : (bytes text : List ℕ) → Encoded bytes text → Encoded (0 ∷ 0 ∷ 0 ∷ 0 ∷ bytes) (122 ∷ text)

pub record Ascii85Law : Type 0 where
  -- all bytes can be encoded
  pub encodes : (bytes : List ℕ) → Bytes bytes → (text : List ℕ) × Encoded bytes text
  -- an encoding with ~> behind it, and with white bytes anywhere before the >, decodes to the bytes that it was made of,
  -- ends cleanly, and leaves all that stands behind the >, whatever the ending is there
  pub decodes :
      (bytes text spaced behind : List ℕ) (e : Ending) → Encoded bytes text → unspaced spaced ≡ text ++ 126 ∷ []
      → decode a85_step tt [] (spaced ++ 62 ∷ behind) e ≡ gives bytes Clean behind false
