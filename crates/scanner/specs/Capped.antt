use Rattle.std.specs.Prelude.{ℕ, min, Some, None, Option}

-- a value, but 2^32 for each that is larger
abbrev pub capped : Option ℕ → Option ℕ
capped None = None
capped (Some v) = Some (min v 4294967296)
