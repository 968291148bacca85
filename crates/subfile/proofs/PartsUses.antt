use Rattle.std.proofs.Common.{◌≡◌, ℕ, ◌+◌, ◌-◌, ◌<◌, ◌≤◌, List, [], length, take, drop, sym, ap, ◌∙◌, arith, length-drop, length-take}
use lib.Seq.{paste}
use Rattle.std.proofs.lemmas.List.{drop_all, drop_more, take_at, length-take-le}
use Rattle.std.proofs.lemmas.Slice.{between_is}

-- what stands from i up to j
abbrev pub part : List ℕ → ℕ → ℕ → List ℕ
part xs i j = drop i (take j xs)

pub part_none : (xs : List ℕ) (i j : ℕ) → j ≤ i → part xs i j ≡ []
part_none xs i j h = drop_all i (take j xs) (let e : length (take j xs) ≤ i = omega (arith, length-take j xs) in e)

-- what stands behind the first
pub part_others : (xs : List ℕ) (i j : ℕ) → i < j → j ≤ length xs → part xs (i + 1) j ≡ drop 1 (part xs i j)
part_others xs i j h k =
    let e : i < length (take j xs) = omega (arith, length-take-le j xs k) in
    sym (ap (drop 1) (drop_more (take j xs) i 0 e))

-- a part that was copied to the front
pub part_moved : (xs ys : List ℕ) (i j : ℕ) → j ≤ length xs → ys ≡ paste xs 0 (drop i xs) (j - i) → take (j - i) ys ≡ part xs i j
part_moved xs ys i j k e =
    let n : length (take (j - i) (drop i xs)) ≡ j - i = length-take-le (j - i) (drop i xs) (let q : j - i ≤ length (drop i xs) = omega (arith, length-drop i xs) in q) in
    ap (take (j - i)) e ∙ (take_at (take (j - i) (drop i xs)) (drop (0 + (j - i)) xs) (j - i) n ∙ between_is xs i j)
