use Rattle.std.specs.Prelude.{ℕ, ◌-◌, Bool, true, false, cond, ◌&&◌, ◌||◌, List, [], ◌∷◌, length, take, drop, ℤ, pos, neg_ℤ, Some, None, Ok, Err, Option, Result, ◌==◌, nat_eq, nat_le, nat_lt, slice_index}
use Rattle.source.specs.Bytes.{digit_value}
use Rattle.source.specs.declared.fault.Fault.{Fault}
use Rattle.source.specs.declared.fault.Fault.TheVariants.{RadixRange}
use Rattle.scanner.specs.declared.kinds.Kind.{Kind}
use Rattle.scanner.specs.declared.kinds.Kind.TheVariants.{Integer, Real, Name}
use Rattle.scanner.specs.Digits.{digits_of}

-- + and -
abbrev pub sign : ℕ → Bool
sign b = b == 43 || b == 45

-- what stands behind the first byte, if that byte passes the test
abbrev pub behind_one : (ℕ → Bool) → List ℕ → List ℕ
behind_one test [] = []
behind_one test (b ∷ bs) = cond (test b) bs (b ∷ bs)

-- what stands behind an optional sign
abbrev pub behind_sign : List ℕ → List ℕ
behind_sign s = behind_one sign s

abbrev pub negative : List ℕ → Bool
negative [] = false
negative (b ∷ bs) = b == 45

-- a value with its sign, if it has 32 signed bits
abbrev pub signed : Bool → ℕ → Option ℤ
signed true v = cond (nat_le v 2147483648) (Some (neg_ℤ (pos v))) None
signed false v = cond (nat_le v 2147483647) (Some (pos v)) None

abbrev pub signed_value : Bool → Option ℕ → Option ℤ
signed_value minus None = None
signed_value minus (Some v) = signed minus v

-- an integer: an optional sign and digits, within 32 signed bits
abbrev pub integer_of : List ℕ → Option ℤ
integer_of s = signed_value (negative s) (digits_of 10 (behind_sign s))

-- 32 bits read as two's complement; a value that has more is too large
abbrev pub twos_of : ℕ → Result Kind Fault
twos_of v = cond (nat_le v 2147483647) (Ok (Integer (pos v))) (cond (nat_le v 4294967295) (Ok (Integer (neg_ℤ (pos (4294967296 - v))))) (Err RadixRange))

abbrev pub radix_value : Option ℕ → Option (Result Kind Fault)
radix_value None = None
radix_value (Some v) = Some (twos_of v)

-- digits in the base, if the base is from 2 to 36
abbrev pub radix_in : Option ℕ → List ℕ → Option (Result Kind Fault)
radix_in None s = None
radix_in (Some base) s = cond (nat_le 2 base && nat_le base 36) (radix_value (digits_of base s)) None

-- a radix number: a base of one or two decimal digits, #, and one or more digits below the base
abbrev pub radix_of : List ℕ → Option (Result Kind Fault)
radix_of s =
    cond (slice_index s 1 == 35) (radix_in (digits_of 10 (take 1 s)) (drop 2 s))
    (cond (slice_index s 2 == 35) (radix_in (digits_of 10 (take 2 s)) (drop 3 s)) None)

-- what stands behind the decimal digits at the start
abbrev pub behind_digits : List ℕ → List ℕ
behind_digits [] = []
behind_digits (b ∷ bs) = cond (nat_lt (digit_value b) 10) (behind_digits bs) (b ∷ bs)

-- what stands behind an optional point
abbrev pub behind_point : List ℕ → List ℕ
behind_point s = behind_one (λ b. nat_eq b 46) s

-- some digits, and nothing else
abbrev pub only_digits : List ℕ → Bool
only_digits s = nat_lt 0 (length s) && length (behind_digits s) == 0

-- e and E
abbrev pub power : ℕ → Bool
power b = b == 101 || b == 69

-- nothing, or e or E, an optional sign and digits
abbrev pub exponent : List ℕ → Bool
exponent [] = true
exponent (b ∷ bs) = power b && only_digits (behind_sign bs)

-- behind the sign of a real: digits, an optional point, digits, of which there is at least one, and an optional exponent
abbrev pub real_behind_sign : List ℕ → Bool
real_behind_sign s =
    (nat_lt (length (behind_digits s)) (length s) || nat_lt (length (behind_digits (behind_point (behind_digits s)))) (length (behind_point (behind_digits s))))
    && exponent (behind_digits (behind_point (behind_digits s)))

abbrev pub real_of : List ℕ → Bool
real_of s = real_behind_sign (behind_sign s)

abbrev pub integer_or : Option ℤ → Result Kind Fault → Result Kind Fault
integer_or None w = w
integer_or (Some v) w = Ok (Integer v)

abbrev pub radix_or : Option (Result Kind Fault) → Result Kind Fault → Result Kind Fault
radix_or None w = w
radix_or (Some r) w = r

-- what a run is: an integer, a radix number, a real, or else a name
abbrev pub word_of : List ℕ → Result Kind Fault
word_of s = integer_or (integer_of s) (radix_or (radix_of s) (cond (real_of s) (Ok Real) (Ok Name)))
