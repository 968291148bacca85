use Rattle.std.proofs.Common.{◌≡◌, ℕ, ◌+◌, ◌*◌, ◌<◌, List, [], ◌∷◌, ◌++◌, length, get_or, take, drop, set, sym, ap, ◌∙◌, arith}
use Rattle.std.specs.List.{flat_map}
use Rattle.std.proofs.lemmas.Grind.{flat_map-append}
use Rattle.std.proofs.lemmas.List.{append-nil, take-append-drop, take_more}
use Rattle.listing.specs.declared.refusal.Refusal.{Refusal}
use Rattle.listing.specs.Puts.{Taken, Full}
use Rattle.listing.specs.Placing.{Placed}
use Rattle.listing.proofs.PlacingUses.{placed_byte, placed_length, placed_then, placed_as}
use Rattle.listing.proofs.PutUses.{taken_then, taken_as, full_behind, full_before, full_as}

-- what shows the first elements, and one more
pub joined_step : (f : ℕ → List ℕ) (xs : List ℕ) (i : ℕ) → i < length xs → flat_map f (take i xs) ++ f (get_or xs i 0) ≡ flat_map f (take (i + 1) xs)
joined_step f xs i h =
    ap (λ z. flat_map f (take i xs) ++ z) (sym (append-nil (f (get_or xs i 0))))
    ∙ (sym (flat_map-append f (take i xs) (get_or xs i 0 ∷ [])) ∙ ap (flat_map f) (sym (take_more xs i 0 h)))

joined_all : (f : ℕ → List ℕ) (xs : List ℕ) (i : ℕ) → flat_map f (take i xs) ++ flat_map f (drop i xs) ≡ flat_map f xs
joined_all f xs i = sym (flat_map-append f (take i xs) (drop i xs)) ∙ ap (flat_map f) (take-append-drop i xs)

-- a turn of a loop that writes two bytes, which show the next element
pub placed_more :
    (f : ℕ → List ℕ) (xs : List ℕ) (i x y : ℕ) {before l : List ℕ} → i < length xs → length before ≡ 2 * length xs
    → x ∷ y ∷ [] ≡ f (get_or xs i 0) → Placed 0 (flat_map f (take i xs)) before (2 * i) l
    → Placed 0 (flat_map f (take (i + 1) xs)) before (2 * (i + 1)) (set (set l (2 * i) x) (2 * i + 1) y)
placed_more f xs i x y {before} {l} h size e placed =
    let first = placed_byte (2 * i) x l (omega (arith, placed_length placed)) in
    let second = placed_byte (2 * i + 1) y (set l (2 * i) x) (omega (arith, placed_length placed, placed_length first)) in
    placed_as (placed_then placed (placed_then first second)) (ap (λ z. flat_map f (take i xs) ++ z) e ∙ joined_step f xs i h) (omega arith)

-- a turn of a loop that puts what shows the next element
module _ {S : Type 0} {room : S → ℕ} {takes : S → List ℕ → S → Type 0} (f : ℕ → List ℕ) where
  pub taken_more :
      {s t u : S} (xs : List ℕ) (i : ℕ) → i < length xs
      → Taken room takes s (flat_map f (take i xs)) t → Taken room takes t (f (get_or xs i 0)) u → Taken room takes s (flat_map f (take (i + 1) xs)) u
  taken_more xs i h x y = taken_as (taken_then x y) (joined_step f xs i h)

  pub full_more :
      {s t : S} {e : Refusal} (xs : List ℕ) (i : ℕ) → i < length xs
      → Taken room takes s (flat_map f (take i xs)) t → Full (room t) (f (get_or xs i 0)) e → Full (room s) (flat_map f xs) e
  full_more xs i h x y =
      full_as (full_before (flat_map f (drop (i + 1) xs)) (full_as (full_behind x y) (joined_step f xs i h))) (joined_all f xs (i + 1))
