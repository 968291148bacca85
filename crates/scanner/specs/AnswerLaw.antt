use Rattle.std.specs.Prelude.{◌≡◌, ℕ, ◌<◌, ◌≤◌, true, false, List, [], length, ℤ, pos, negsuc, Ok, Err, Result}
use Rattle.source.specs.declared.ending.Ending.{Ending}
use Rattle.source.specs.Gone.{Behind}
use Rattle.scanner.specs.declared.failure.Failure.{Failure}
use Rattle.scanner.specs.declared.failure.Failure.TheVariants.{Area, Fault}
use Rattle.scanner.specs.declared.kinds.Kind.{Kind}
use Rattle.scanner.specs.declared.kinds.Kind.TheVariants as kind
use Rattle.scanner.specs.declared.kinds.Token.{Token}
use Rattle.scanner.specs.Kinds.{value_of}
use Rattle.scanner.specs.Spaces.{skipped}
use Rattle.scanner.specs.Tokens.{ended_token, bare, unfit, token_of}

-- how many bytes of content an answer says that there are
abbrev pub said : Result Token Failure → ℕ
said (Ok t) = t.n
said (Err Area) = 0
said (Err (Fault f n)) = n

-- within 32 signed bits
abbrev pub InRange : ℤ → Type 0
InRange (pos v) = v ≤ 2147483647
InRange (negsuc v) = v ≤ 2147483647

-- an integer's value is in range, and that of any other kind is 0
abbrev pub KindValue : Kind → ℤ → Type 0
KindValue (kind.Integer i) v = InRange v
KindValue kind.End v = v ≡ pos 0
KindValue kind.Name v = v ≡ pos 0
KindValue kind.Literal v = v ≡ pos 0
KindValue kind.Immediate v = v ≡ pos 0
KindValue kind.Real v = v ≡ pos 0
KindValue kind.String v = v ≡ pos 0
KindValue kind.HexString v = v ≡ pos 0
KindValue kind.OpenArray v = v ≡ pos 0
KindValue kind.CloseArray v = v ≡ pos 0
KindValue kind.OpenProcedure v = v ≡ pos 0
KindValue kind.CloseProcedure v = v ≡ pos 0
KindValue kind.OpenDictionary v = v ≡ pos 0
KindValue kind.CloseDictionary v = v ≡ pos 0

abbrev pub Valued : Result Token Failure → Type 0
Valued (Ok t) = KindValue t.kind (value_of t.kind)
Valued (Err f) = Unit {0}

-- what holds of each answer
pub record AnswerLaw : Type 0 where
  -- its n is the length of the content
  pub counts : (room : ℕ) (rest : List ℕ) (e : Ending) → said (token_of room rest e).answer ≡ length (token_of room rest e).content
  -- its value is 0 but for integers
  pub values : (room : ℕ) (rest : List ℕ) (e : Ending) → Valued (token_of room rest e).answer
  -- what is left is what stands behind the bytes that were taken
  pub behind : (room : ℕ) (rest : List ℕ) (e : Ending) → Behind (token_of room rest e).left rest
  -- where nothing stands behind white bytes and comments, it is the ending
  pub ends : (room : ℕ) (rest : List ℕ) (e : Ending) → unfit room ≡ false → skipped false rest ≡ [] → token_of room rest e ≡ bare (ended_token e) [] true
  -- where something does, a byte is taken
  pub moves :
      (room : ℕ) (rest : List ℕ) (e : Ending) → unfit room ≡ false → 0 < length (skipped false rest) → length (token_of room rest e).left < length rest
