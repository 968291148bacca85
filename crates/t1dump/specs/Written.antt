use Rattle.std.specs.Prelude.{◌≡◌, ℕ, ◌≤◌, List, ◌++◌, length, drop}

-- a text was written to the start of an area, where it fits, and r is its length
pub record Wrote (text area : List ℕ) (r : ℕ) (area' : List ℕ) : Type 0 where
  pub fits : length text ≤ length area
  pub count : r ≡ length text
  pub filled : area' ≡ text ++ drop (length text) area
