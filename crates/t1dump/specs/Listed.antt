use Rattle.std.specs.Prelude.{◌≡◌, ℕ, Bool, List, ◌++◌, Result}
use Rattle.scanner.specs.declared.failure.Failure.{Failure}
use Rattle.scanner.specs.declared.kinds.Token.{Token}
use Rattle.source.specs.Model.{Model}
use Rattle.scanner.specs.Scan.{Scan}
use Rattle.scanner.specs.Tokens.{token_of}
use Rattle.t1dump.specs.Texts.{answer_text, goes_on, lines_of}

-- the first token of what a source holds, read with an area of 4,096 bytes
abbrev pub token_at : {H : Type 0} → Model H → H → Scan (Result Token Failure)
token_at m h = token_of 4096 (m.rest h) (m.ending h)

-- the lines of all its tokens
abbrev pub lines_in : {H : Type 0} → Model H → H → List ℕ
lines_in m h = lines_of 4096 (m.rest h) (m.ending h)

-- the line of what a call did was added to what is printed, and `more` says whether another token stands behind it
pub record Listed (s : Scan (Result Token Failure)) (out : List ℕ) (more : Bool) (out' : List ℕ) : Type 0 where
  pub lines : out' ≡ out ++ answer_text s.answer s.content
  pub goes : more ≡ goes_on s.answer
