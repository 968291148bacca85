use Rattle.std.specs.Prelude.{◌≡◌, ℕ, true, false, cond, ◌&&◌, List, [], ◌∷◌, ◌++◌, length}
use Rattle.source.specs.declared.ending.Ending.{Ending}
use Rattle.std.specs.List.{flat_map}
use Rattle.source.specs.Bytes.{digit_value, halves, Bytes}
use Rattle.eexec.specs.Cipher.{enciphered}
use Rattle.eexec.specs.CipherBytes.{blank}
use Rattle.decoding.specs.Ends.{passed}
use Rattle.decoding.specs.Decoding.{gives, decode}
use Rattle.eexec.specs.Eexec.{hexadecimal, eexec_start, eexec_step}

-- each is a blank
abbrev pub Blanks : List ℕ → Type 0
Blanks [] = Unit {0}
Blanks (b ∷ bs) = (blank b ≡ true) × Blanks bs

-- the values of the digits in a text, blanks left out
abbrev pub values : List ℕ → List ℕ
values [] = []
values (b ∷ bs) = cond (blank b) (values bs) (digit_value b ∷ values bs)

-- plain bytes, enciphered behind any four, come back, and end with what stands below
pub record EexecLaw : Type 0 where
  -- the cipher bytes as they are, if no blank stands first and the first four are not all hexadecimal digits
  pub binary :
      (salt plain : List ℕ) (a b c d : ℕ) (rest : List ℕ) (e : Ending) → length salt ≡ 4
      → enciphered 55665 (salt ++ plain) ≡ a ∷ b ∷ c ∷ d ∷ rest → blank a ≡ false
      → (hexadecimal a && (hexadecimal b && (hexadecimal c && hexadecimal d))) ≡ false
      → decode eexec_step eexec_start [] (a ∷ b ∷ c ∷ d ∷ rest) e ≡ gives plain (passed e) [] true
  -- the cipher bytes in hexadecimal digits, with blanks anywhere but among the first four
  pub hex :
      (salt plain lead : List ℕ) (a b c d : ℕ) (rest : List ℕ) (e : Ending) → length salt ≡ 4 → Bytes (salt ++ plain) → Blanks lead
      → digit_value a ∷ digit_value b ∷ digit_value c ∷ digit_value d ∷ values rest ≡ flat_map halves (enciphered 55665 (salt ++ plain))
      → decode eexec_step eexec_start [] (lead ++ a ∷ b ∷ c ∷ d ∷ rest) e ≡ gives plain (passed e) [] true
