use Rattle.std.specs.Prelude.{ℕ, ◌+◌, ◌*◌, cond, List, [], ◌∷◌, Some, None, Option, nat_lt}
use Rattle.source.specs.Bytes.{digit_value}

-- the value of digits in a base, behind digits of the value v; nothing where one is not below the base
abbrev pub digits_behind : ℕ → ℕ → List ℕ → Option ℕ
digits_behind base v [] = Some v
digits_behind base v (b ∷ bs) = cond (nat_lt (digit_value b) base) (digits_behind base (v * base + digit_value b) bs) None

-- the value of one or more digits in a base
abbrev pub digits_of : ℕ → List ℕ → Option ℕ
digits_of base [] = None
digits_of base (b ∷ bs) = digits_behind base 0 (b ∷ bs)
