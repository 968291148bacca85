use Rattle.std.specs.Prelude.{ℕ, Bool, true, false, cond, ◌||◌, List, [], ◌∷◌, Some, None, Option, ◌==◌, nat_lt}
use Rattle.source.specs.declared.ending.Damage.TheVariants as damage
use Rattle.source.specs.declared.ending.Ending.{Ending}
use Rattle.source.specs.declared.ending.Ending.TheVariants.{Damaged}
use Rattle.source.specs.Bytes.{digit_value}
use Rattle.source.specs.Hex.{paired}
use Rattle.source.specs.Reads.{Read}
use Rattle.eexec.specs.declared.cipherbytes.Form.{Form}
use Rattle.eexec.specs.declared.cipherbytes.Form.TheVariants.{Hex, Binary}
use Rattle.decoding.specs.Ends.{above, passed}

-- a cipher byte as it was read; or the end below where it would begin; or how it broke off
pub data CipherByte : Type 0 where
  Whole : ℕ → CipherByte
  Missing : Ending → CipherByte
  Broken : Ending → CipherByte

-- what a byte does in the hexadecimal form: a digit waits for its second, or none does; a cipher byte is there; it is stray
pub data CipherTurn : Type 0 where
  Wait : Option ℕ → CipherTurn
  Put : ℕ → CipherTurn
  Stray : CipherTurn

-- the blanks of eexec data: tab, line feed, carriage return, space
abbrev pub blank : ℕ → Bool
blank b = b == 9 || (b == 10 || (b == 13 || b == 32))

-- a digit of the value d, where a first digit is pending or none
abbrev pub digit_turn : Option ℕ → ℕ → CipherTurn
digit_turn None d = Wait (Some d)
digit_turn (Some high) d = Put (paired high d)

-- what a byte does in the hexadecimal form: two digits are a cipher byte, blanks are passed over
abbrev pub turn_of : Option ℕ → ℕ → CipherTurn
turn_of pending b = cond (nat_lt (digit_value b) 16) (digit_turn pending (digit_value b)) (cond (blank b) (Wait pending) Stray)

-- what that does, where `left` is left behind the byte and `on` says how the reading goes on
abbrev pub cipher_turn : CipherTurn → List ℕ → (Option ℕ → Read CipherByte) → Read CipherByte
cipher_turn (Wait half) left on = on half
cipher_turn (Put c) left on = record { answer = Whole c; left = left; peeked = false }
cipher_turn Stray left on = record { answer = Broken (Damaged damage.Stray 0); left = left; peeked = false }

-- the end below, where a cipher byte would begin, or behind its first digit
abbrev pub cipher_end : Option ℕ → Ending → CipherByte
cipher_end None e = Missing e
cipher_end (Some high) e = Broken (above e)

-- how decryption ends there, where n plain bytes are still to be dropped
abbrev pub hex_ending : Option ℕ → ℕ → Ending → Ending
hex_ending None n e = cond (n == 0) (passed e) (above e)
hex_ending (Some high) n e = above e

-- the next cipher byte in the hexadecimal form, where a first digit is pending or none
abbrev pub hex_cipher : Option ℕ → List ℕ → Ending → Read CipherByte
hex_cipher pending [] e = record { answer = cipher_end pending e; left = []; peeked = true }
hex_cipher pending (b ∷ bs) e = cipher_turn (turn_of pending b) bs (λ half. hex_cipher half bs e)

-- the next cipher byte in the binary form
abbrev pub binary_cipher : List ℕ → Ending → Read CipherByte
binary_cipher [] e = record { answer = Missing e; left = []; peeked = true }
binary_cipher (b ∷ bs) e = record { answer = Whole b; left = bs; peeked = false }

-- the next cipher byte
abbrev pub cipher_read_of : Form → List ℕ → Ending → Read CipherByte
cipher_read_of Hex rest e = hex_cipher None rest e
cipher_read_of Binary rest e = binary_cipher rest e
