use Rattle.std.specs.Prelude.{ℕ, zero, suc, ◌+◌, Bool, false, ◌||◌, List, [], ◌++◌, length, Some, None, Option}
use Rattle.source.specs.declared.ending.Ending.{Ending}
use Rattle.source.specs.Reads.{Read}
use Rattle.decoding.specs.Step.{StepOf, Own}

-- all that a filter makes of a rest and an ending: the bytes, how they end, where it leaves the one below, and whether
-- it met the end there
pub record Decoding : Type 0 where
  pub bytes : List ℕ
  pub ending : Ending
  pub left : List ℕ
  pub peeked : Bool

abbrev pub gives : List ℕ → Ending → List ℕ → Bool → Decoding
gives bytes ending left peeked = record { bytes = bytes; ending = ending; left = left; peeked = peeked }

-- a step and, unless it ended, what comes after
abbrev pub then : {K : Type 0} → Option Ending → Read (Own K) → Decoding → Decoding
then None s d = record { bytes = s.answer.ready ++ d.bytes; ending = d.ending; left = d.left; peeked = s.peeked || d.peeked }
then (Some e) s d = record { bytes = s.answer.ready; ending = e; left = s.left; peeked = s.peeked }

-- n steps at the most
abbrev pub decoding : {K : Type 0} → StepOf K → ℕ → K → List ℕ → List ℕ → Ending → Decoding
decoding step zero k c bs e = record { bytes = []; ending = e; left = bs; peeked = false }
decoding step (suc n) k c bs e =
    let s = step k c bs e in then s.answer.ended s (decoding step n s.answer.kind s.answer.compared s.left e)

-- the whole decoding: each step but the last takes away from what is compared and what is left
unfoldable pub decode : {K : Type 0} → StepOf K → K → List ℕ → List ℕ → Ending → Decoding
decode step k c bs e = decoding step (suc (length c + length bs)) k c bs e
