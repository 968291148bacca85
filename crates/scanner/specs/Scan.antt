use Rattle.std.specs.Prelude.{◌≡◌, ℕ, Bool, List, ◌++◌, length, drop}
use Rattle.source.specs.declared.ending.Ending.{Ending}
use Rattle.source.specs.Model.{Model}
use Rattle.source.specs.Gone.{gone_to}

-- what a call does: what it answers, what stands at the start of the area then, what is left of the rest, and whether
-- a look was made at that
pub record Scan (A : Type 0) : Type 0 where
  pub answer : A
  pub content : List ℕ
  pub left : List ℕ
  pub peeked : Bool

-- a call does what f says of the area's length, the rest and the ending
pub record Scans {H A : Type 0} (m : Model H) (f : ℕ → List ℕ → Ending → Scan A) (h : H) (area : List ℕ) (r : A) (h' : H) (area' : List ℕ) : Type 0 where
  pub answer : r ≡ (f (length area) (m.rest h) (m.ending h)).answer
  pub filled : area' ≡ (f (length area) (m.rest h) (m.ending h)).content ++ drop (length (f (length area) (m.rest h) (m.ending h)).content) area
  pub after : h' ≡ gone_to m h (f (length area) (m.rest h) (m.ending h)).left (f (length area) (m.rest h) (m.ending h)).peeked
