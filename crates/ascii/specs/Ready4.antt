use Rattle.std.specs.Prelude.{ℕ, ◌/◌, ◌%◌, List, [], ◌∷◌, take, drop}
use Rattle.ascii.specs.declared.ready4.Ready4.{Ready4}

-- the four bytes of a number, the highest first
abbrev pub bytes4 : ℕ → List ℕ
bytes4 v = v / 16777216 ∷ v / 65536 % 256 ∷ v / 256 % 256 ∷ v % 256 ∷ []

-- what is ready: the bytes from the place on
abbrev pub listed : Ready4 → List ℕ
listed r = drop r.place (take 4 r.bytes)
