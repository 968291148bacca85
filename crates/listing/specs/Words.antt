use Rattle.std.specs.Prelude.{ℕ, List, Some, None, Option}
use Rattle.scanner.specs.declared.kinds.Kind.{Kind}
use Rattle.scanner.specs.declared.kinds.Kind.TheVariants.{End}
use Rattle.scanner.specs.Kinds.{kind_text}

-- the word of a kind in a token's line; the end has a line of its own
abbrev pub kind_word : Kind → Option (List ℕ)
kind_word End = None
kind_word kind = Some (kind_text kind)
