use Rattle.std.specs.Prelude.{◌≡◌, ℕ, ◌<◌, ◌≤◌, List, [], ◌∷◌, ◌++◌, length, drop, Some, None, Ok, Err, codes, decimal, Option, Result}
use Rattle.source.specs.declared.ending.Ending.{Ending}
use Rattle.source.specs.declared.ending.Ending.TheVariants.{Clean, Damaged}
use Rattle.source.specs.declared.fault.Fault.{Fault}
use Rattle.source.specs.Numbers.{damage_number, fault_number, fault_depth}
use Rattle.scanner.specs.declared.kinds.Token.{Token}
use Rattle.listing.specs.declared.refusal.Refusal.{Refusal}
use Rattle.listing.specs.declared.refusal.Refusal.TheVariants.{Line}
use Rattle.listing.specs.Shown.{shown}
use Rattle.listing.specs.Words.{kind_word}

abbrev pub blank : List ℕ
blank = 32 ∷ []

abbrev pub newline : List ℕ
newline = 10 ∷ []

-- a blank before what is not empty
abbrev pub spaced : List ℕ → List ℕ
spaced [] = []
spaced (b ∷ bs) = 32 ∷ b ∷ bs

abbrev pub end_text : List ℕ
end_text = codes "end 0 0" ++ newline

-- a fault's number and its depth
abbrev pub fault_text : ℕ → ℕ → List ℕ
fault_text number depth = codes "fault " ++ decimal number ++ blank ++ decimal depth ++ newline

-- the level, the word and what is shown of the content; the end where there is no word
abbrev pub token_by : Option (List ℕ) → ℕ → List ℕ → List ℕ
token_by None level content = end_text
token_by (Some word) level content = decimal level ++ blank ++ word ++ spaced content ++ newline

-- the line of a token with its content at a level
abbrev pub token_text : ℕ → Token → List ℕ → List ℕ
token_text level token content = token_by (kind_word token.kind) level (shown token content)

-- the line of an ending
abbrev pub ending_text : Ending → List ℕ
ending_text Clean = end_text
ending_text (Damaged damage depth) = fault_text (damage_number damage) depth

-- the line of a fault
abbrev pub flaw_text : Fault → List ℕ
flaw_text fault = fault_text (fault_number fault) (fault_depth fault)

-- a text is printed into an area: it stands at the area's start, and its length is the answer; where it does not fit
-- the call is refused, and the area is as it was
pub record Prints (text area : List ℕ) (r : Result ℕ Refusal) (area' : List ℕ) : Type 0 where
  pub fits : length text ≤ length area → (r ≡ Ok (length text)) × (area' ≡ text ++ drop (length text) area)
  pub refused : length area < length text → (r ≡ Err Line) × (area' ≡ area)
