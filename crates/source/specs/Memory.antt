use Rattle.std.specs.Prelude.{ℕ, List, refl}
use Rattle.std.proofs.Common.{sym, ◌∙◌, ap}
use Rattle.source.specs.Model.{Model, tail}
use Rattle.source.specs.declared.ending.Ending.TheVariants.{Clean}
use Rattle.source.specs.declared.memory.Memory.{Memory}
use Rattle.source.specs.Laws.{Lawful}

-- a list of bytes with a clean end: a look changes nothing, a take removes the first
abbrev pub memory_model : Model (List ℕ)
memory_model = record { rest = λ h. h; ending = λ _. Clean; looked = λ h. h; taken = tail }

pub memory_lawful : Lawful (List ℕ) memory_model
memory_lawful = record {
  looked_rest = λ h. refl;
  looked_ending = λ h. refl;
  taken_rest = λ h. refl;
  taken_ending = λ h. refl;
  looked_twice = λ h. refl;
  looked_taken = λ h. refl;
  taken_empty = λ h e. ap tail e ∙ sym e;
}

-- the bytes that have not been taken
abbrev pub unread : Memory → List ℕ
unread m = m.rest.now
