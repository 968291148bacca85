use Rattle.std.specs.Prelude.{◌≡◌, ℕ, ◌+◌, ◌<◌, List, length, MatchResult, ⊤, Result}
use Rattle.std.specs.Fmt.{WritesInCalls}
use Rattle.listing.specs.declared.refusal.Refusal.{Refusal}
use Rattle.listing.specs.declared.refusal.Refusal.TheVariants.{Line}

-- s became t by taking the bytes of a text, and has room for so many fewer
pub record Taken {S : Type 0} (room : S → ℕ) (takes : S → List ℕ → S → Type 0) (s : S) (text : List ℕ) (t : S) : Type 0 where
  pub bytes : WritesInCalls takes s text t
  pub left : room s ≡ room t + length text

-- a text that does not fit into the room is refused
pub record Full (room : ℕ) (text : List ℕ) (refusal : Refusal) : Type 0 where
  pub line : refusal ≡ Line
  pub short : room < length text

-- a text was put into a sink
abbrev pub Puts : {S : Type 0} → (S → ℕ) → (S → List ℕ → S → Type 0) → S → List ℕ → Result ⊤ Refusal → S → Type 0
Puts room takes s text r t = MatchResult r (λ _. Taken room takes s text t) (Full (room s) text)
