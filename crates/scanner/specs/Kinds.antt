use Rattle.std.specs.Prelude.{ℕ, List, ℤ, pos, codes}
use Rattle.scanner.specs.declared.kinds.Kind.{Kind}
use Rattle.scanner.specs.declared.kinds.Kind.TheVariants.{End, Name, Literal, Immediate, Integer, Real, String, HexString, OpenArray, CloseArray, OpenProcedure, CloseProcedure, OpenDictionary, CloseDictionary}
use Rattle.scanner.specs.declared.kinds.Token.{Token}

-- a token of a kind, with n bytes of content
abbrev pub token : Kind → ℕ → Token
token k n = record { kind = k; n = n }

-- what is no integer has the value 0
abbrev pub value_of : Kind → ℤ
value_of (Integer v) = v
value_of End = pos 0
value_of Name = pos 0
value_of Literal = pos 0
value_of Immediate = pos 0
value_of Real = pos 0
value_of String = pos 0
value_of HexString = pos 0
value_of OpenArray = pos 0
value_of CloseArray = pos 0
value_of OpenProcedure = pos 0
value_of CloseProcedure = pos 0
value_of OpenDictionary = pos 0
value_of CloseDictionary = pos 0

-- the word of a kind: its name, or the bracket itself
abbrev pub kind_text : Kind → List ℕ
kind_text End = codes "end"
kind_text Name = codes "name"
kind_text Literal = codes "literal"
kind_text Immediate = codes "immediate"
kind_text (Integer v) = codes "integer"
kind_text Real = codes "real"
kind_text String = codes "string"
kind_text HexString = codes "hexstring"
kind_text OpenArray = codes "["
kind_text CloseArray = codes "]"
kind_text OpenProcedure = codes "{"
kind_text CloseProcedure = codes "}"
kind_text OpenDictionary = codes "<<"
kind_text CloseDictionary = codes ">>"
