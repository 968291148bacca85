use Rattle.std.specs.Prelude.{◌≡◌, ℕ, ◌+◌, ◌<◌, true, false, List, [], ◌∷◌, length, Some, None, Option}
use Rattle.source.specs.declared.ending.Ending.{Ending}
use Rattle.source.specs.Model.{tail}
use Rattle.source.specs.Gone.{Behind}
use Rattle.source.specs.Reads.{Read}

-- what a filter of the kind K holds: the bytes that are ready to be handed up, the bytes that were compared with a mark
-- and are not ready yet, and what else its steps depend on
pub record Holds (K : Type 0) : Type 0 where
  pub ready : List ℕ
  pub compared : List ℕ
  pub kind : K

-- the same, and how it has ended, if it has
pub record Own (K : Type 0) : Type 0 where
  pub ready : List ℕ
  pub compared : List ℕ
  pub kind : K
  pub ended : Option Ending

abbrev pub own_of : {K : Type 0} → Holds K → Option Ending → Own K
own_of h o = record { ready = h.ready; compared = h.compared; kind = h.kind; ended = o }

-- a filter that has made no step
abbrev pub fresh : {K : Type 0} → K → Own K
fresh k = record { ready = []; compared = []; kind = k; ended = None }

-- one step, at a kind, the bytes compared, and the rest and the ending below: what is held then, and what is left below;
-- `peeked` says whether the end below was met
abbrev pub StepOf : Type 0 → Type 0
StepOf K = K → List ℕ → List ℕ → Ending → Read (Own K)

abbrev pub step_from : {K : Type 0} → StepOf K → Holds K → List ℕ → Ending → Read (Own K)
step_from step h rest e = step h.kind h.compared rest e

-- the first ready byte is handed up
abbrev pub popped : {K : Type 0} → Holds K → Holds K
popped h = record { ready = tail h.ready; compared = h.compared; kind = h.kind }

abbrev pub head_of : List ℕ → Option ℕ
head_of [] = None
head_of (b ∷ bs) = Some b

-- a step that stops behind a byte that it took: what is ready then, and whether that was the end
abbrev pub makes : {K : Type 0} → K → List ℕ → Option Ending → List ℕ → Read (Own K)
makes k ready o left = record { answer = record { ready = ready; compared = []; kind = k; ended = o }; left = left; peeked = false }

-- a step that stops at the end below, with nothing ready
abbrev pub stops : {K : Type 0} → K → Ending → Read (Own K)
stops k ending = record { answer = record { ready = []; compared = []; kind = k; ended = Some ending }; left = []; peeked = true }

-- some byte is there
abbrev pub Filled : List ℕ → Type 0
Filled r = (b : ℕ) × (bs : List ℕ) × (r ≡ b ∷ bs)

-- what is true of one step over the rest bs, with n bytes to go, compared ones included
pub record Sound {K : Type 0} (n : ℕ) (bs : List ℕ) (s : Read (Own K)) : Type 0 where
  -- it goes on behind what it took, and met the end only where nothing is left
  pub behind : Behind s.left bs
  pub met_end : s.peeked ≡ true → s.left ≡ []
  -- unless it ended, a byte is ready and fewer are to go
  pub fills : s.answer.ended ≡ None → Filled s.answer.ready
  pub falls : s.answer.ended ≡ None → length s.answer.compared + length s.left < n
  -- once it has ended nothing is compared any more
  pub ends : (x : Ending) → s.answer.ended ≡ Some x → s.answer.compared ≡ []

-- each step is so
abbrev pub LawfulStep : (K : Type 0) → StepOf K → Type 0
LawfulStep K step = (k : K) (c bs : List ℕ) (e : Ending) → Sound (length c + length bs) bs (step k c bs e)
