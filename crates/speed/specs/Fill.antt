use Rattle.std.specs.Prelude.{ℕ, min, List, length, take, drop, nat_lt}
use Rattle.source.specs.declared.ending.Ending.{Ending}
use Rattle.scanner.specs.Scan.{Scan}

-- an area is filled with as much of the rest as there is room for; the end is met only where there is room left
abbrev pub fill_of : ℕ → List ℕ → Ending → Scan ℕ
fill_of room rest e = record {
  answer = min room (length rest);
  content = take room rest;
  left = drop room rest;
  peeked = nat_lt (length rest) room;
}
