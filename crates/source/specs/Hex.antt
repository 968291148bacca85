use Rattle.std.specs.Prelude.{ℕ, ◌+◌, ◌*◌, ◌%◌, cond, Some, None, Option, ◌==◌, nat_lt}
use Rattle.source.specs.declared.hex.HexByte.{HexByte}
use Rattle.source.specs.declared.hex.HexByte.TheVariants as byte
use Rattle.source.specs.declared.hex.HexTurn.{HexTurn}
use Rattle.source.specs.declared.hex.HexTurn.TheVariants as turn
use Rattle.source.specs.Bytes.{white, digit_value}

-- what a byte is in hexadecimal data: a digit, a white byte, >, or a stray byte
abbrev pub hex_byte_of : ℕ → HexByte
hex_byte_of b = cond (nat_lt (digit_value b) 16) (byte.Digit (digit_value b)) (cond (white b) byte.White (cond (b == 62) byte.Close byte.Stray))

-- two digits are a byte, high half first; the remainders leave a digit as it is, and keep the result a byte
abbrev pub paired : ℕ → ℕ → ℕ
paired high low = 16 * (high % 16) + low % 16

abbrev pub on_digit : Option ℕ → ℕ → HexTurn
on_digit None d = turn.Wait (Some d)
on_digit (Some high) d = turn.Put (paired high d)

-- a lone digit before > is a byte with 0 for its low half
abbrev pub on_close : Option ℕ → HexTurn
on_close None = turn.Done
on_close (Some high) = turn.Last (paired high 0)

-- what a byte does where a first digit is pending, or none
abbrev pub hex_turn_of : Option ℕ → HexByte → HexTurn
hex_turn_of pending (byte.Digit d) = on_digit pending d
hex_turn_of pending byte.White = turn.Wait pending
hex_turn_of pending byte.Close = on_close pending
hex_turn_of pending byte.Stray = turn.Stray
