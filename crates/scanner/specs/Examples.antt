use Rattle.std.specs.Prelude.{◌≡◌, ℕ, Bool, true, false, List, [], ◌∷◌, ◌++◌, length, replicate, pos, negsuc, Ok, Err, codes, Result}
use Rattle.source.specs.declared.ending.Damage.TheVariants.{CutShort}
use Rattle.source.specs.declared.ending.Ending.TheVariants.{Clean, Damaged}
use Rattle.source.specs.declared.fault.Fault.TheVariants.{Damage, Limit, Unended, RadixRange, StrayInHex, StrayDelimiter}
use Rattle.source.specs.declared.fault.Fault.{Fault}
use Rattle.scanner.specs.declared.failure.Failure.{Failure}
use Rattle.scanner.specs.declared.failure.Failure.TheVariants.{Area}
use Rattle.scanner.specs.declared.kinds.Kind.{Kind}
use Rattle.scanner.specs.declared.kinds.Kind.TheVariants.{End, Name, Literal, Immediate, Integer, Real, String, HexString, OpenArray, CloseProcedure, OpenDictionary, CloseDictionary}
use Rattle.scanner.specs.declared.kinds.Token.{Token}
use Rattle.scanner.specs.Kinds.{token}
use Rattle.scanner.specs.Failures.{broken}
use Rattle.scanner.specs.Scan.{Scan}
use Rattle.scanner.specs.Tokens.{token_of}

-- the first token of a text, with an area of 128 bytes and a clean end
abbrev pub scan : List ℕ → Scan (Result Token Failure)
scan s = token_of 128 s Clean

-- a token, what is left, and whether that was looked at
abbrev pub gives : Kind → List ℕ → List ℕ → Bool → Scan (Result Token Failure)
gives kind content left peeked = record {
  answer = Ok (token kind (length content));
  content = content;
  left = left;
  peeked = peeked;
}

-- a fault with the content so far
abbrev pub fails : Fault → List ℕ → List ℕ → Bool → Scan (Result Token Failure)
fails fault content left peeked = record { answer = Err (broken fault content); content = content; left = left; peeked = peeked }

-- worked examples of the grammar
pub record Examples : Type 0 where
  pub literal : scan (codes "/a 16#1F") ≡ gives Literal (codes "a") (codes "16#1F") false
  pub empty_name : scan (codes "/ x") ≡ gives Literal [] (codes "x") false
  pub immediate : scan (codes "//a[") ≡ gives Immediate (codes "a") (codes "[") true
  pub comment : scan (codes " %c\nx") ≡ gives Name (codes "x") [] true
  pub nothing : scan (codes " %c") ≡ gives End [] [] true
  pub radix : scan (codes "16#1F") ≡ gives (Integer (pos 31)) (codes "16#1F") [] true
  pub all_bits : scan (codes "16#FFFFFFFF") ≡ gives (Integer (negsuc 0)) (codes "16#FFFFFFFF") [] true
  pub too_large : scan (codes "16#100000000 x") ≡ fails RadixRange (codes "16#100000000") (codes "x") false
  pub leading_zero : scan (codes "08#7") ≡ gives (Integer (pos 7)) (codes "08#7") [] true
  pub base_37 : scan (codes "37#1") ≡ gives Name (codes "37#1") [] true
  pub signed_radix : scan (codes "-16#1F") ≡ gives Name (codes "-16#1F") [] true
  pub least : scan (codes "-2147483648") ≡ gives (Integer (negsuc 2147483647)) (codes "-2147483648") [] true
  pub beyond : scan (codes "2147483648") ≡ gives Real (codes "2147483648") [] true
  pub beyond_least : scan (codes "-2147483649") ≡ gives Real (codes "-2147483649") [] true
  pub real : scan (codes ".50%c") ≡ gives Real (codes ".50") (codes "%c") true
  pub power : scan (codes "-1.e+05]") ≡ gives Real (codes "-1.e+05") (codes "]") true
  pub no_power : scan (codes "1e+") ≡ gives Name (codes "1e+") [] true
  pub two_points : scan (codes "1.2.3") ≡ gives Name (codes "1.2.3") [] true
  pub point : scan (codes ".") ≡ gives Name (codes ".") [] true
  pub string : scan (codes "(x\\)y) [") ≡ gives String (codes "x)y") (codes " [") false
  pub nested : scan (codes "(a(b)\\\nc)") ≡ gives String (codes "a(b)c") [] false
  pub octal : scan (codes "(\\400\\18\\1234)") ≡ gives String (0 ∷ 1 ∷ codes "8S4") [] false
  pub line_ends : scan (40 ∷ 13 ∷ 10 ∷ 13 ∷ 10 ∷ 10 ∷ 41 ∷ []) ≡ gives String (10 ∷ 10 ∷ 10 ∷ []) [] false
  pub escaped_end : scan (40 ∷ 92 ∷ 13 ∷ 10 ∷ 92 ∷ 13 ∷ 13 ∷ 41 ∷ []) ≡ gives String (10 ∷ []) [] false
  pub unended : scan (codes "(a\\1") ≡ fails Unended (codes "a" ++ 1 ∷ []) [] true
  pub hexstring : scan (codes "<4 1F>>") ≡ gives HexString (0x41 ∷ 0xF0 ∷ []) (codes ">") false
  pub stray_hex : scan (codes "< <41>") ≡ fails StrayInHex [] (codes "41>") false
  pub open_dictionary : scan (codes "<<<") ≡ gives OpenDictionary [] (codes "<") false
  pub close_dictionary : scan (codes ">> ") ≡ gives CloseDictionary [] (codes " ") false
  pub lone_greater : scan (codes "> >") ≡ fails StrayDelimiter [] (codes " >") true
  pub lone_close : scan (codes ")a") ≡ fails StrayDelimiter [] (codes "a") false
  pub bracket : scan (codes "[ ") ≡ gives OpenArray [] (codes " ") false
  pub brace : scan (codes "}}") ≡ gives CloseProcedure [] (codes "}") false
  pub longest : scan (replicate 127 97 ++ 32 ∷ []) ≡ gives Name (replicate 127 97) [] false
  pub one_more : scan (replicate 128 97 ++ 32 ∷ []) ≡ fails Limit (replicate 127 97) (32 ∷ []) false
  pub damage_behind : token_of 128 (codes "ab") (Damaged CutShort 4) ≡ gives Name (codes "ab") [] true
  pub damage : token_of 128 (codes " ") (Damaged CutShort 4) ≡ fails (Damage CutShort 4) [] [] true
  pub damage_inside : token_of 128 (codes "(ab") (Damaged CutShort 4) ≡ fails (Damage CutShort 4) (codes "ab") [] true
  pub small_area : token_of 127 (codes "a") Clean ≡ record { answer = Err Area; content = []; left = codes "a"; peeked = false }
  pub large_area : token_of 65536 (codes "a") Clean ≡ record { answer = Err Area; content = []; left = codes "a"; peeked = false }
