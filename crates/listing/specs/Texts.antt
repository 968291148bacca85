use Rattle.std.specs.Prelude.{ℕ, List, Some}
use Rattle.listing.specs.declared.text.Text.{Text}
use Rattle.listing.specs.declared.text.Text.TheVariants.{End, Fault, Token}
use Rattle.listing.specs.Lines.{end_text, fault_text, token_by}
use Rattle.listing.specs.Shown.{shown_by}

-- the line that says it
abbrev pub text_of : Text → List ℕ
text_of End = end_text
text_of (Fault number depth) = fault_text number depth
text_of (Token level word form content) = token_by (Some word.now) level (shown_by form content.now)
