use Rattle.std.specs.Prelude.{◌≡◌, ℕ, zero, suc, ◌-◌, Bool, true, false, List, ◌++◌, length}
use Rattle.source.specs.Model.{Model}

-- what is held after n takes
abbrev pub takes : {H : Type 0} → Model H → ℕ → H → H
takes m zero h = h
takes m (suc n) h = takes m n (m.taken h)

-- what is held after a look, if there was one
abbrev pub peek : {H : Type 0} → Model H → Bool → H → H
peek m true h = m.looked h
peek m false h = h

-- what is held once `left` is left of the rest and then, if so said, a look was made
abbrev pub gone_to : {H : Type 0} → Model H → H → List ℕ → Bool → H
gone_to m h left peeked = peek m peeked (takes m (length (m.rest h) - length left) h)

-- `left` is what is left of `all` behind some bytes
pub record Behind (left all : List ℕ) : Type 0 where
  pub front : List ℕ
  pub joined : all ≡ front ++ left
