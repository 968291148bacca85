use Rattle.std.specs.Prelude.{ℕ, Bool, true, false, cond, ◌||◌, List, [], ◌∷◌, length, Some, None, Ok, Err, Option, Result, ◌==◌, nat_lt}
use Rattle.source.specs.declared.ending.Ending.{Ending}
use Rattle.source.specs.declared.ending.Ending.TheVariants.{Clean, Damaged}
use Rattle.source.specs.declared.fault.Fault.{Fault}
use Rattle.source.specs.declared.fault.Fault.TheVariants.{Damage, StrayDelimiter}
use Rattle.source.specs.Numbers.{unended}
use Rattle.source.specs.Reads.{Read}
use Rattle.scanner.specs.declared.failure.Failure.{Failure}
use Rattle.scanner.specs.declared.failure.Failure.TheVariants as failure
use Rattle.scanner.specs.declared.kinds.Kind.{Kind}
use Rattle.scanner.specs.declared.kinds.Kind.TheVariants as kind
use Rattle.scanner.specs.declared.kinds.Token.{Token}
use Rattle.scanner.specs.declared.tokens.Start.{Start}
use Rattle.scanner.specs.declared.tokens.Start.TheVariants as start
use Rattle.scanner.specs.Kinds.{token}
use Rattle.scanner.specs.Numbers.{word_of}
use Rattle.scanner.specs.Failures.{broken}
use Rattle.scanner.specs.Scan.{Scan}
use Rattle.scanner.specs.Spaces.{skipped}
use Rattle.scanner.specs.Runs.{run_of}
use Rattle.scanner.specs.Takes.{take_if_of}
use Rattle.scanner.specs.Strings.{string_of}
use Rattle.scanner.specs.HexStrings.{hex_of}

-- what the first byte of a token begins: each special byte something of its own, so that a token takes a byte; any other
-- byte a run
abbrev pub start_of : ℕ → Option Start
start_of b =
    cond (b == 40) (Some start.String)
    (cond (b == 47) (Some start.Slash)
    (cond (b == 60) (Some start.Less)
    (cond (b == 62) (Some start.Greater)
    (cond (b == 91) (Some (start.Bracket kind.OpenArray))
    (cond (b == 93) (Some (start.Bracket kind.CloseArray))
    (cond (b == 123) (Some (start.Bracket kind.OpenProcedure))
    (cond (b == 125) (Some (start.Bracket kind.CloseProcedure))
    (cond (b == 41 || b == 37) (Some start.Stray) None))))))))

-- the end as a token; a damage passes up as it is
abbrev pub ended_token : Ending → Result Token Failure
ended_token Clean = Ok (token kind.End 0)
ended_token (Damaged d n) = Err (failure.Fault (Damage d n) 0)

-- a fault with no content
abbrev pub bare_fault : Ending → Failure
bare_fault e = failure.Fault (unended e) 0

abbrev pub judged_by : Result Kind Fault → List ℕ → Result Token Failure
judged_by (Ok k) s = Ok (token k (length s))
judged_by (Err f) s = Err (broken f s)

-- the token that a run is
abbrev pub judged_of : List ℕ → Result Token Failure
judged_of s = judged_by (word_of s) s

abbrev pub worded : Result ℕ Failure → List ℕ → Result Token Failure
worded (Ok n) s = judged_of s
worded (Err f) s = Err f

-- a number or an executable name
abbrev pub as_word : Scan (Result ℕ Failure) → Scan (Result Token Failure)
as_word s = record { answer = worded s.answer s.content; content = s.content; left = s.left; peeked = s.peeked }

abbrev pub word_token_of : ℕ → List ℕ → Ending → Scan (Result Token Failure)
word_token_of room rest e = as_word (run_of room rest e)

-- what was read as a token of a kind
abbrev pub tokened : Kind → Result ℕ Failure → Result Token Failure
tokened k (Ok n) = Ok (token k n)
tokened k (Err f) = Err f

abbrev pub as_token : Kind → Scan (Result ℕ Failure) → Scan (Result Token Failure)
as_token k s = record { answer = tokened k s.answer; content = s.content; left = s.left; peeked = s.peeked }

-- a name behind one / or two; the ending is no second one
abbrev pub slash : Result Bool Ending → Kind
slash (Ok true) = kind.Immediate
slash (Ok false) = kind.Literal
slash (Err e) = kind.Literal

-- the name behind a /
abbrev pub name_of : ℕ → List ℕ → Ending → Scan (Result Token Failure)
name_of room rest e = as_token (slash (take_if_of 47 rest e).answer) (run_of room (take_if_of 47 rest e).left e)

abbrev pub string_token_of : ℕ → List ℕ → Ending → Scan (Result Token Failure)
string_token_of room rest e = as_token kind.String (string_of room rest e)

abbrev pub hex_token_of : ℕ → List ℕ → Ending → Scan (Result Token Failure)
hex_token_of room rest e = as_token kind.HexString (hex_of room rest e)

-- an answer that has no content
abbrev pub bare : Result Token Failure → List ℕ → Bool → Scan (Result Token Failure)
bare r left peeked = record { answer = r; content = []; left = left; peeked = peeked }

abbrev pub less_by : Result Bool Ending → List ℕ → Bool → Scan (Result Token Failure) → Scan (Result Token Failure)
less_by (Err e) left peeked on = bare (Err (bare_fault e)) left peeked
less_by (Ok true) left peeked on = bare (Ok (token kind.OpenDictionary 0)) left peeked
less_by (Ok false) left peeked on = on

-- what stands behind a <: another one, or a hex string; an end there is a fault
abbrev pub less_of : ℕ → List ℕ → Ending → Scan (Result Token Failure)
less_of room rest e =
    less_by (take_if_of 60 rest e).answer (take_if_of 60 rest e).left (take_if_of 60 rest e).peeked (hex_token_of room (take_if_of 60 rest e).left e)

abbrev pub greater_by : Result Bool Ending → Result Token Failure
greater_by (Err e) = Err (bare_fault e)
greater_by (Ok true) = Ok (token kind.CloseDictionary 0)
greater_by (Ok false) = Err (failure.Fault StrayDelimiter 0)

-- what stands behind a >: another one, or the > is stray; an end there is a fault
abbrev pub greater_of : List ℕ → Ending → Read (Result Token Failure)
greater_of rest e = record { answer = greater_by (take_if_of 62 rest e).answer; left = (take_if_of 62 rest e).left; peeked = (take_if_of 62 rest e).peeked }

abbrev pub next_by : Option Start → ℕ → ℕ → List ℕ → Ending → Scan (Result Token Failure)
next_by None room b bs e = word_token_of room (b ∷ bs) e
next_by (Some start.String) room b bs e = string_token_of room bs e
next_by (Some start.Slash) room b bs e = name_of room bs e
next_by (Some start.Less) room b bs e = less_of room bs e
next_by (Some start.Greater) room b bs e = bare (greater_of bs e).answer (greater_of bs e).left (greater_of bs e).peeked
next_by (Some (start.Bracket k)) room b bs e = bare (Ok (token k 0)) bs false
next_by (Some start.Stray) room b bs e = bare (Err (failure.Fault StrayDelimiter 0)) bs false

-- the token that stands next
abbrev pub next_of : ℕ → List ℕ → Ending → Scan (Result Token Failure)
next_of room [] e = bare (ended_token e) [] true
next_of room (b ∷ bs) e = next_by (start_of b) room b bs e

-- an area is fit from 128 to 65,535 bytes
abbrev pub unfit : ℕ → Bool
unfit room = nat_lt room 128 || nat_lt 65535 room

-- the next token, behind white bytes and comments
abbrev pub token_of : ℕ → List ℕ → Ending → Scan (Result Token Failure)
token_of room rest e = cond (unfit room) (bare (Err failure.Area) rest false) (next_of room (skipped false rest) e)
