use Rattle.std.specs.Prelude.{ℕ, zero, suc, Bool, true, false, cond, not, List, [], ◌++◌, length, Ok, Err, codes, Result, nat_lt}
use Rattle.source.specs.declared.ending.Ending.{Ending}
use Rattle.source.specs.declared.ending.Ending.TheVariants.{Clean}
use Rattle.scanner.specs.declared.failure.Failure.{Failure}
use Rattle.scanner.specs.declared.failure.Failure.TheVariants.{Area, Fault}
use Rattle.scanner.specs.declared.kinds.Kind.{Kind}
use Rattle.scanner.specs.declared.kinds.Kind.TheVariants as kind
use Rattle.scanner.specs.declared.kinds.Token.{Token}
use Rattle.scanner.specs.Tokens.{token_of}
use Rattle.listing.specs.Lines.{token_text, flaw_text}

-- the line of an answer with its content: that of a token at level 0, or of a fault; a refused call has none
abbrev pub answer_text : Result Token Failure → List ℕ → List ℕ
answer_text (Ok t) content = token_text 0 t content
answer_text (Err Area) content = []
answer_text (Err (Fault f n)) content = flaw_text f

abbrev pub is_end : Kind → Bool
is_end kind.End = true
is_end kind.Name = false
is_end kind.Literal = false
is_end kind.Immediate = false
is_end (kind.Integer v) = false
is_end kind.Real = false
is_end kind.String = false
is_end kind.HexString = false
is_end kind.OpenArray = false
is_end kind.CloseArray = false
is_end kind.OpenProcedure = false
is_end kind.CloseProcedure = false
is_end kind.OpenDictionary = false
is_end kind.CloseDictionary = false

-- behind each token but the end stands another
abbrev pub goes_on : Result Token Failure → Bool
goes_on (Ok t) = not (is_end t.kind)
goes_on (Err f) = false

-- the lines of a text, read with an area of this room, in fewer tokens than the first number
abbrev pub lines_at : ℕ → ℕ → List ℕ → Ending → List ℕ
lines_at zero room rest e = []
lines_at (suc k) room rest e =
    answer_text (token_of room rest e).answer (token_of room rest e).content
    ++ cond (goes_on (token_of room rest e).answer) (lines_at k room (token_of room rest e).left e) []

-- each token takes a byte, so there are no more tokens than this
abbrev pub lines_of : ℕ → List ℕ → Ending → List ℕ
lines_of room rest e = lines_at (suc (length rest)) room rest e

-- what is printed of an input
abbrev pub printed : List ℕ → List ℕ
printed input = cond (nat_lt 65536 (length input)) (codes "too large\n") (lines_of 4096 input Clean)
