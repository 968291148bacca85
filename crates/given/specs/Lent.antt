use Rattle.std.specs.Prelude.{ℕ, Bool, true, false, List, [], ◌∷◌, refl}
use Rattle.std.proofs.Common.{sym, ◌∙◌, ap}
use Rattle.source.specs.Model.{Model, tail}
use Rattle.source.specs.Laws.{Lawful}
use Rattle.source.specs.declared.ending.Ending.{Ending}
use Rattle.given.specs.declared.lent.Given.{Given}

-- what a given source holds: the bytes still to come, how they end, and whether what comes next was looked at and stays
pub record Held : Type 0 where
  pub rest : List ℕ
  pub ending : Ending
  pub seen : Bool

abbrev pub none : List ℕ → Bool
none [] = true
none (b ∷ bs) = false

-- a look is remembered; a take removes the first byte, and where there is none it is a look
abbrev pub given_model : Model Held
given_model = record {
  rest = λ h. h.rest;
  ending = λ h. h.ending;
  looked = λ h. record { rest = h.rest; ending = h.ending; seen = true };
  taken = λ h. record { rest = tail h.rest; ending = h.ending; seen = none h.rest };
}

pub given_lawful : Lawful Held given_model
given_lawful = record {
  looked_rest = λ h. refl;
  looked_ending = λ h. refl;
  taken_rest = λ h. refl;
  taken_ending = λ h. refl;
  looked_twice = λ h. refl;
  looked_taken = λ h. refl;
  taken_empty = λ h e.
      ap (λ r. let x : Held = record { rest = tail r; ending = h.ending; seen = none r } in x) e
      ∙ sym (ap (λ r. let x : Held = record { rest = r; ending = h.ending; seen = true } in x) e);
}

abbrev pub held_by : Given → Held
held_by g = record { rest = g.rest.now; ending = g.ending; seen = g.seen }
