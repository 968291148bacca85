use Rattle.std.specs.Prelude.{◌≡◌, ℕ, false, List, [], ◌∷◌, Ok, ◌≢◌}
use Rattle.source.specs.declared.ending.Ending.{Ending}
use Rattle.scanner.specs.declared.class.Class.TheVariants.{Regular}
use Rattle.scanner.specs.declared.kinds.Kind.TheVariants.{Literal, Immediate, OpenArray, CloseArray, OpenProcedure, CloseProcedure, OpenDictionary, CloseDictionary}
use Rattle.scanner.specs.Classes.{class_of}
use Rattle.scanner.specs.Runs.{run_at}
use Rattle.scanner.specs.Kinds.{token}
use Rattle.scanner.specs.Tokens.{as_word, as_token, bare, unfit, token_of}

-- how tokens begin: a regular byte begins a run, which is a number or an executable name; a run, perhaps empty, behind
-- one / is a literal name, and behind two an immediate one; brackets are tokens, and nothing behind them is looked at
pub record StartLaw : Type 0 where
  pub words :
      (room b : ℕ) (bs : List ℕ) (e : Ending) → unfit room ≡ false → class_of b ≡ Regular → token_of room (b ∷ bs) e ≡ as_word (run_at [] (b ∷ bs))
  pub literals :
      (room b : ℕ) (bs : List ℕ) (e : Ending) → unfit room ≡ false → (b ≢ 47) → token_of room (47 ∷ b ∷ bs) e ≡ as_token Literal (run_at [] (b ∷ bs))
  pub immediates :
      (room : ℕ) (bs : List ℕ) (e : Ending) → unfit room ≡ false → token_of room (47 ∷ 47 ∷ bs) e ≡ as_token Immediate (run_at [] bs)
  pub open_array : (room : ℕ) (bs : List ℕ) (e : Ending) → unfit room ≡ false → token_of room (91 ∷ bs) e ≡ bare (Ok (token OpenArray 0)) bs false
  pub close_array : (room : ℕ) (bs : List ℕ) (e : Ending) → unfit room ≡ false → token_of room (93 ∷ bs) e ≡ bare (Ok (token CloseArray 0)) bs false
  pub open_procedure : (room : ℕ) (bs : List ℕ) (e : Ending) → unfit room ≡ false → token_of room (123 ∷ bs) e ≡ bare (Ok (token OpenProcedure 0)) bs false
  pub close_procedure : (room : ℕ) (bs : List ℕ) (e : Ending) → unfit room ≡ false → token_of room (125 ∷ bs) e ≡ bare (Ok (token CloseProcedure 0)) bs false
  pub open_dictionary :
      (room : ℕ) (bs : List ℕ) (e : Ending) → unfit room ≡ false → token_of room (60 ∷ 60 ∷ bs) e ≡ bare (Ok (token OpenDictionary 0)) bs false
  pub close_dictionary :
      (room : ℕ) (bs : List ℕ) (e : Ending) → unfit room ≡ false → token_of room (62 ∷ 62 ∷ bs) e ≡ bare (Ok (token CloseDictionary 0)) bs false
