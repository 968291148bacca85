use Rattle.std.proofs.Common.{◌≡◌, ℕ, List, [], ◌∷◌, Ok, sym, refl, ◌∙◌, subst}
use Rattle.std.specs.Fmt.{WritesInCalls}
use Rattle.std.specs.List.{concat, FoldsTo}
use Rattle.listing.specs.declared.area.Area.{Area}
use Rattle.listing.specs.Lines.{Prints}
use Rattle.listing.specs.Placing.{Placed}
use Rattle.listing.proofs.PlacingUses.{placed_none, placed_then}
use Rattle.listing.proofs.LineUses.{prints_whole}

-- what an area is before and after it takes a piece
abbrev pub area_takes : Area → List ℕ → Area → Type 0
area_takes s piece t = (t.bytes.ghost_name ≡ s.bytes.ghost_name) × Placed s.at piece s.bytes.now t.at t.bytes.now

-- pieces that were written one after another are a piece
area_placed :
    (pieces : List (List ℕ)) (s t : Area) → FoldsTo area_takes s pieces t
    → (t.bytes.ghost_name ≡ s.bytes.ghost_name) × Placed s.at (concat pieces) s.bytes.now t.at t.bytes.now
area_placed [] s t x =
    subst (λ t. (t.bytes.ghost_name ≡ s.bytes.ghost_name) × Placed s.at [] s.bytes.now t.at t.bytes.now) x (refl, placed_none s.at s.bytes.now s.within)
area_placed (p ∷ pieces) s t x =
    let rest = area_placed pieces x.0 t x.2 in
    (rest.0 ∙ x.1.0, placed_then x.1.1 rest.1)

-- a text that was written from the start on is printed
pub area_prints :
    (text : List ℕ) (s t : Area) (after : List ℕ) → s.at ≡ 0 → WritesInCalls area_takes s text t
    → (t.bytes.ghost_name ≡ s.bytes.ghost_name → after ≡ t.bytes.now) → Prints text s.bytes.now (Ok t.at) after
area_prints text s t after e x same =
    let p = area_placed x.parts s t x.calls in
    let placed : Placed 0 text s.bytes.now t.at t.bytes.now = subst (λ n. Placed n text s.bytes.now t.at t.bytes.now) e (subst (λ q. Placed s.at q s.bytes.now t.at t.bytes.now) x.whole p.1) in
    subst (λ l. Prints text s.bytes.now (Ok t.at) l) (sym (same p.0)) (prints_whole placed)
