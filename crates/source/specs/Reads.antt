use Rattle.std.specs.Prelude.{◌≡◌, ℕ, Bool, List}
use Rattle.source.specs.declared.ending.Ending.{Ending}
use Rattle.source.specs.Model.{Model}
use Rattle.source.specs.Gone.{gone_to}

-- what a call does that reads: what it answers, what it leaves of the rest, and whether it looked at that
pub record Read (A : Type 0) : Type 0 where
  pub answer : A
  pub left : List ℕ
  pub peeked : Bool

-- a call does what f says of the rest and the ending
pub record Reads {H A : Type 0} (m : Model H) (f : List ℕ → Ending → Read A) (h : H) (r : A) (h' : H) : Type 0 where
  pub answer : r ≡ (f (m.rest h) (m.ending h)).answer
  pub after : h' ≡ gone_to m h (f (m.rest h) (m.ending h)).left (f (m.rest h) (m.ending h)).peeked
