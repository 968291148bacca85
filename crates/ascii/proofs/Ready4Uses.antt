use Rattle.std.proofs.Common.{◌≡◌, ℕ, zero, suc, ◌+◌, ◌-◌, ◌*◌, ◌/◌, ◌%◌, ◌^◌, ◌<◌, List, [], ◌∷◌, take, drop, min, refl, sym, ap, arith, length-take, add-one}
use Rattle.std.proofs.lemmas.List.{drop_all}
use Rattle.std.specs.Int.{w32, to_be_bytes}
use Rattle.source.specs.Model.{tail}
use Rattle.source.proofs.Going.{drop_nil}
use Rattle.ascii.specs.Ready4.{bytes4}

drop_suc : (p : ℕ) (l : List ℕ) → drop (suc p) l ≡ tail (drop p l)
drop_suc p [] = ap tail (sym (drop_nil p))
drop_suc zero (x ∷ l) = refl
drop_suc (suc p) (x ∷ l) = drop_suc p l

-- one place further, as far as a byte counts
pub others_ready : (place next : ℕ) (bytes : List ℕ) → next ≡ min (place + 1) 255 → drop next (take 4 bytes) ≡ tail (drop place (take 4 bytes))
others_ready place next bytes e = grind (arith, add-one, drop_suc, drop_all, length-take)

-- a number without its last bytes has the others behind zeros
pub number_ready : (missing v : ℕ) → missing < 4 → v < 4294967296
    → drop missing (take 4 (to_be_bytes w32 (v / 2 ^ (8 * missing)))) ≡ take (4 - missing) (bytes4 v)
number_ready zero v h k =
    let a : v / 1 / 16777216 % 256 ≡ v / 16777216 = omega arith in
    let b : v / 1 / 65536 % 256 ≡ v / 65536 % 256 = omega arith in
    let c : v / 1 / 256 % 256 ≡ v / 256 % 256 = omega arith in
    let d : v / 1 % 256 ≡ v % 256 = omega arith in
    cc
number_ready (suc zero) v h k =
    let a : v / 256 / 65536 % 256 ≡ v / 16777216 = omega arith in
    let b : v / 256 / 256 % 256 ≡ v / 65536 % 256 = omega arith in
    cc
number_ready (suc (suc zero)) v h k = let a : v / 65536 / 256 % 256 ≡ v / 16777216 = omega arith in cc
number_ready (suc (suc (suc zero))) v h k = let a : v / 16777216 % 256 ≡ v / 16777216 = omega arith in cc
number_ready (suc (suc (suc (suc m)))) v h k = absurd (omega arith)
