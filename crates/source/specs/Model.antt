use Rattle.std.specs.Prelude.{ℕ, List, [], ◌∷◌, Result, Ok, Err}
use Rattle.source.specs.declared.ending.Ending.{Ending}

-- what a look or a take answers
abbrev pub first : List ℕ → Ending → Result ℕ Ending
first [] e = Err e
first (b ∷ bs) e = Ok b

-- what a take leaves
abbrev pub tail : List ℕ → List ℕ
tail [] = []
tail (b ∷ bs) = bs

-- what a source means, over what it holds
pub record Model (H : Type 0) : Type 0 where
  pub rest : H → List ℕ
  pub ending : H → Ending
  pub looked : H → H
  pub taken : H → H
