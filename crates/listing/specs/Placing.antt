use Rattle.std.specs.Prelude.{◌≡◌, ℕ, ◌+◌, ◌≤◌, List, ◌++◌, length, take, drop}

-- a piece was written over what stood at a place, all else is as it was, and r is the place behind the piece
pub record Placed (at : ℕ) (piece before : List ℕ) (r : ℕ) (after : List ℕ) : Type 0 where
  pub within : at + length piece ≤ length before
  pub behind : r ≡ at + length piece
  pub holds : after ≡ take at before ++ (piece ++ drop (at + length piece) before)
