use Rattle.std.specs.Prelude.{◌≡◌, ℕ, List, [], ◌∷◌, length, pos, negsuc, codes}
use Rattle.source.specs.declared.ending.Damage.TheVariants.{CutShort}
use Rattle.source.specs.declared.ending.Ending.TheVariants.{Clean, Damaged}
use Rattle.source.specs.declared.fault.Fault.TheVariants.{Damage, Limit}
use Rattle.scanner.specs.declared.kinds.Kind.{Kind}
use Rattle.scanner.specs.declared.kinds.Kind.TheVariants.{End, Name, Literal, Immediate, Integer, Real, String, HexString, OpenArray, CloseProcedure, OpenDictionary}
use Rattle.listing.specs.Lines.{token_text, ending_text, flaw_text}

-- the line of a token with this content
abbrev pub line_of : ℕ → Kind → List ℕ → List ℕ
line_of level kind content = token_text level (record { kind = kind; n = length content }) content

-- worked lines
pub record Examples : Type 0 where
  pub literal : line_of 0 Literal (codes "a") ≡ codes "0 literal a\n"
  pub empty_literal : line_of 0 Literal [] ≡ codes "0 literal\n"
  pub name : line_of 12 Name (codes "a\\b") ≡ codes "12 name a\\134b\n"
  pub immediate : line_of 255 Immediate (0 ∷ 32 ∷ 33 ∷ 126 ∷ 127 ∷ 128 ∷ []) ≡ codes "255 immediate \\000\\040!~\\177\\200\n"
  pub integer : line_of 0 (Integer (pos 31)) (codes "8#37") ≡ codes "0 integer 31\n"
  pub zero : line_of 0 (Integer (pos 0)) (codes "-0") ≡ codes "0 integer 0\n"
  pub least : line_of 0 (Integer (negsuc 2147483647)) [] ≡ codes "0 integer -2147483648\n"
  pub real : line_of 0 Real (codes ".50") ≡ codes "0 real .50\n"
  pub string : line_of 0 String (0x78 ∷ 0x29 ∷ 0x79 ∷ []) ≡ codes "0 string 782979\n"
  pub hexstring : line_of 1 HexString (0x0A ∷ 0xFF ∷ []) ≡ codes "1 hexstring 0AFF\n"
  pub empty_string : line_of 0 String [] ≡ codes "0 string\n"
  pub bracket : line_of 0 OpenArray [] ≡ codes "0 [\n"
  pub brace : line_of 1 CloseProcedure (codes "}") ≡ codes "1 }\n"
  pub angles : line_of 0 OpenDictionary [] ≡ codes "0 <<\n"
  pub end : line_of 3 End (codes "a") ≡ codes "end 0 0\n"
  pub clean : ending_text Clean ≡ codes "end 0 0\n"
  pub cut_short : ending_text (Damaged CutShort 1) ≡ codes "fault 22 1\n"
  pub fault : flaw_text (Damage CutShort 10) ≡ codes "fault 22 10\n"
  pub limit : flaw_text Limit ≡ codes "fault 31 0\n"
