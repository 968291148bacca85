use Rattle.std.specs.Prelude.{◌≡◌, ℕ, min, List, ◌++◌, length, take, drop}

-- bytes were written to an area, as many as it had room for, and the others stand as they did
pub record Poured (bytes area : List ℕ) (n : ℕ) (area' : List ℕ) : Type 0 where
  pub count : n ≡ min (length area) (length bytes)
  pub filled : area' ≡ take (length area) bytes ++ drop (length (take (length area) bytes)) area
