use Rattle.std.specs.Prelude.{ℕ, ◌+◌, ◌-◌, ◌/◌, ◌%◌, ◌<◌, Bool, cond, ◌||◌, List, [], ◌∷◌, ◌==◌, min, nat_le, nat_lt, Option, Some, None}

-- the white bytes: null, tab, line feed, form feed, carriage return, blank
abbrev pub white : ℕ → Bool
white b = b == 0 || (b == 9 || (b == 10 || (b == 12 || (b == 13 || b == 32))))

-- a text without its white bytes
abbrev pub unspaced : List ℕ → List ℕ
unspaced [] = []
unspaced (b ∷ bs) = cond (white b) (unspaced bs) (b ∷ unspaced bs)

-- the value of a digit: 0 to 9, then the letters A to Z or a to z, which are 10 to 35; 36 for any other byte
abbrev pub digit_value : ℕ → ℕ
digit_value b =
    cond (nat_le b 47) 36
    (cond (nat_le b 57) (b - 48)
    (cond (nat_le b 64) 36
    (cond (nat_le b 90) (b - 55)
    (cond (nat_le b 96) 36
    (cond (nat_le b 122) (b - 87) 36)))))

-- the same in a base, 36 at most: none where the byte is no digit below the base
abbrev pub digit_of : ℕ → ℕ → Option ℕ
digit_of base b = cond (nat_lt (digit_value b) (min base 36)) (Some (digit_value b)) None

-- a hexadecimal digit, with a capital letter
abbrev pub hex_digit : ℕ → ℕ
hex_digit d = cond (nat_lt d 10) (48 + d) (55 + d)

-- a byte as two hexadecimal digits, the high half first
abbrev pub hex_pair_of : ℕ → List ℕ
hex_pair_of b = hex_digit (b / 16) ∷ hex_digit (b % 16) ∷ []

-- the two halves of a byte, the high one first
abbrev pub halves : ℕ → List ℕ
halves b = b / 16 ∷ b % 16 ∷ []

-- each is a byte
abbrev pub Bytes : List ℕ → Type 0
Bytes [] = Unit {0}
Bytes (b ∷ bs) = (b < 256) × Bytes bs
