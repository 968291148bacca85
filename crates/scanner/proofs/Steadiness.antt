use Rattle.std.proofs.Common.{◌≡◌, ℕ, Bool, true, false, List, [], ◌∷◌, Some, None, Ok, Err, Option, Result, sym, subst}
use Rattle.std.proofs.lemmas.Bool.{cond-false}
use Rattle.source.specs.declared.ending.Ending.{Ending}
use Rattle.source.proofs.Calls.{Steady, steady_here, steady_next, steady_then}
use Rattle.scanner.specs.declared.tokens.Start.{Start}
use Rattle.scanner.specs.declared.tokens.Start.TheVariants as start
use Rattle.scanner.specs.Scan.{Scan}
use Rattle.scanner.specs.Spaces.{passes, skip_by, skipped}
use Rattle.scanner.specs.Runs.{run_of}
use Rattle.scanner.specs.Takes.{take_if_of}
use Rattle.scanner.specs.Strings.{string_of}
use Rattle.scanner.specs.HexStrings.{hex_of}
use Rattle.scanner.specs.Tokens.{start_of, name_of, hex_token_of, less_by, less_of, next_by, next_of, unfit, token_of}
use Rattle.scanner.proofs.PieceUses.{steady_take_if}
use Rattle.scanner.proofs.Sound.{sound_run, sound_string, sound_hex}

-- what each definition leaves stands behind what was taken, and where nothing was taken a look was made

abbrev pub SteadyScan : {A : Type 0} → List ℕ → Scan A → Type 0
SteadyScan rest s = Steady rest s.left s.peeked

skip_step : (b : ℕ) (bs : List ℕ) (p : Option Bool) → ((o : Bool) → Steady bs (skipped o bs) true) → Steady (b ∷ bs) (skip_by p (b ∷ bs) (λ o. skipped o bs)) true
skip_step b bs None on = steady_here (b ∷ bs)
skip_step b bs (Some o) on = steady_then (steady_next b bs) (on o)

pub steady_skip : (c : Bool) (rest : List ℕ) → Steady rest (skipped c rest) true
steady_skip c [] = steady_here []
steady_skip c (b ∷ bs) = skip_step b bs (passes c b) (λ o. steady_skip o bs)

pub steady_run : (room : ℕ) (rest : List ℕ) (e : Ending) → SteadyScan rest (run_of room rest e)
steady_run room rest e = (sound_run [] rest).steady

pub steady_string : (room : ℕ) (rest : List ℕ) (e : Ending) → SteadyScan rest (string_of room rest e)
steady_string room rest e = (sound_string room rest e).steady

pub steady_hex : (room : ℕ) (rest : List ℕ) (e : Ending) → SteadyScan rest (hex_of room rest e)
steady_hex room rest e = (sound_hex room rest e).steady

pub steady_name : (room : ℕ) (rest : List ℕ) (e : Ending) → SteadyScan rest (name_of room rest e)
steady_name room rest e = steady_then (steady_take_if 47 rest e) (steady_run room (take_if_of 47 rest e).left e)

pub steady_less : (room : ℕ) (rest : List ℕ) (e : Ending) → SteadyScan rest (less_of room rest e)
steady_less room rest e = at (take_if_of 60 rest e).answer
  where
    at : (a : Result Bool Ending) → SteadyScan rest (less_by a (take_if_of 60 rest e).left (take_if_of 60 rest e).peeked (hex_token_of room (take_if_of 60 rest e).left e))
    at (Err f) = steady_take_if 60 rest e
    at (Ok true) = steady_take_if 60 rest e
    at (Ok false) = steady_then (steady_take_if 60 rest e) (steady_hex room (take_if_of 60 rest e).left e)

next_step : (k : Option Start) (room b : ℕ) (bs : List ℕ) (e : Ending) → SteadyScan (b ∷ bs) (next_by k room b bs e)
next_step None room b bs e = steady_run room (b ∷ bs) e
next_step (Some start.String) room b bs e = steady_then (steady_next b bs) (steady_string room bs e)
next_step (Some start.Slash) room b bs e = steady_then (steady_next b bs) (steady_name room bs e)
next_step (Some start.Less) room b bs e = steady_then (steady_next b bs) (steady_less room bs e)
next_step (Some start.Greater) room b bs e = steady_then (steady_next b bs) (steady_take_if 62 bs e)
next_step (Some (start.Bracket k)) room b bs e = steady_next b bs
next_step (Some start.Stray) room b bs e = steady_next b bs

pub steady_next_token : (room : ℕ) (rest : List ℕ) (e : Ending) → SteadyScan rest (next_of room rest e)
steady_next_token room [] e = steady_here []
steady_next_token room (b ∷ bs) e = next_step (start_of b) room b bs e

pub steady_token : (room : ℕ) → unfit room ≡ false → (rest : List ℕ) (e : Ending) → SteadyScan rest (token_of room rest e)
steady_token room fit rest e =
    subst (λ (s : Scan _). SteadyScan rest s) (sym (cond-false (unfit room) _ _ fit)) (steady_then (steady_skip false rest) (steady_next_token room (skipped false rest) e))
