use Rattle.std.specs.Prelude.{ℕ, ◌-◌, true, false, cond, List, [], ◌∷◌, ◌++◌, take, drop, Some, None, Option, ◌==◌}
use Rattle.source.specs.declared.ending.Ending.{Ending}
use Rattle.source.specs.declared.ending.Ending.TheVariants.{Clean}
use Rattle.source.specs.Reads.{Read}
use Rattle.subfile.specs.declared.subfile.Match.{Match}
use Rattle.subfile.specs.declared.subfile.Match.TheVariants.{Starts, Equals, Fails}
use Rattle.subfile.specs.declared.subfile.SubFile.{SubFile}
use Rattle.decoding.specs.Decoding.{Decoding, decode}
use Rattle.decoding.specs.Ends.{passed, above}
use Rattle.subfile.specs.Holding.{ready_of, compared_of}
use Rattle.subfile.specs.Marks.{mark_of}
use Rattle.decoding.specs.Step.{Holds, Own, StepOf, own_of, makes, stops}

-- what the steps of SubFileDecode depend on: the count that is left, and the mark
pub record SubState : Type 0 where
  pub count : ℕ
  pub mark : List ℕ

abbrev pub sub_holds : SubFile → Holds SubState
sub_holds f = record { ready = ready_of f.held; compared = compared_of f.held; kind = record { count = f.count; mark = mark_of f.mark } }

-- how the bytes held stand to the mark: they are a proper start of it, or the mark, or neither
abbrev pub judged : List ℕ → List ℕ → Match
judged [] [] = Equals
judged [] (x ∷ held) = Fails
judged (m ∷ mark) [] = Starts
judged (m ∷ mark) (x ∷ held) = cond (m == x) (judged mark held) Fails

-- the count goes down by one, and at 0 the filter ends
abbrev pub counted : SubState → SubState
counted k = record { count = k.count - 1; mark = k.mark }

abbrev pub last_ends : ℕ → Option Ending
last_ends n = cond (n == 1) (Some Clean) None

-- bytes that count as one are handed up
abbrev pub counts : SubState → List ℕ → List ℕ → Read (Own SubState)
counts k bytes left = makes (counted k) bytes (last_ends k.count) left

-- the same of what is ready already; a count of 0 counts nothing
abbrev pub counted_own : Holds SubState → Own SubState
counted_own h = cond (h.kind.count == 0) (own_of h None) (own_of (record { ready = h.ready; compared = h.compared; kind = counted h.kind }) (last_ends h.kind.count))

-- no mark: a byte at a time, as many as are to be counted, or all where the count is 0
abbrev pub byte_at : SubState → List ℕ → Ending → Read (Own SubState)
byte_at k [] e = stops k (cond (k.count == 0) (passed e) (above e))
byte_at k (b ∷ left) e = cond (k.count == 0) (makes k (b ∷ []) None left) (counts k (b ∷ []) left)

-- an instance of the mark: where the count is 0 it is dropped and the filter ends, else it is handed up and counted
abbrev pub instance_at : SubState → List ℕ → List ℕ → Read (Own SubState)
instance_at k held left = cond (k.count == 0) (makes k [] (Some Clean) left) (counts k held left)

-- what is held then, where the bytes compared are the mark
abbrev pub instance_own : Holds SubState → Own SubState
instance_own h = (instance_at h.kind h.compared []).answer

-- neither: the first byte held is handed up, and the others are compared again
abbrev pub first_at : SubState → List ℕ → List ℕ → Read (Own SubState)
first_at k held left = record { answer = record { ready = take 1 held; compared = drop 1 held; kind = k; ended = None }; left = left; peeked = false }

-- the end below: all bytes held are handed up
abbrev pub cut_at : SubState → List ℕ → Ending → Read (Own SubState)
cut_at k held e = record { answer = record { ready = held; compared = []; kind = k; ended = Some (above e) }; left = []; peeked = true }

-- what becomes of the bytes held, where `on` says how the step goes on with one more
abbrev pub mark_turn : Match → SubState → List ℕ → List ℕ → Read (Own SubState) → Read (Own SubState)
mark_turn Starts k held left on = on
mark_turn Equals k held left on = instance_at k held left
mark_turn Fails k held left on = first_at k held left

-- with a mark: bytes are taken while those held are a proper start of it
abbrev pub mark_at : SubState → List ℕ → List ℕ → Ending → Read (Own SubState)
mark_at k held [] e = mark_turn (judged k.mark held) k held [] (cut_at k held e)
mark_at k held (b ∷ bs) e = mark_turn (judged k.mark held) k held (b ∷ bs) (mark_at k (held ++ b ∷ []) bs e)

-- the same from what is held
abbrev pub mark_from : Holds SubState → List ℕ → Ending → Read (Own SubState)
mark_from h rest e = mark_at h.kind h.compared rest e

-- a step, without a mark or with one
abbrev pub sub_by : List ℕ → StepOf SubState
sub_by [] k held rest e = byte_at k rest e
sub_by (m ∷ mark) k held rest e = mark_at k held rest e

abbrev pub sub_step : StepOf SubState
sub_step k held rest e = sub_by k.mark k held rest e

-- all that a filter with this count and mark makes of a rest and an ending
abbrev pub sub_of : ℕ → List ℕ → List ℕ → Ending → Decoding
sub_of n mark rest e = decode sub_step (record { count = n; mark = mark }) [] rest e
