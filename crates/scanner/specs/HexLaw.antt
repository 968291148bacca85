use Rattle.std.specs.Prelude.{◌≡◌, ℕ, ◌≤◌, false, List, ◌∷◌, ◌++◌, length, Ok}
use Rattle.std.specs.List.{flat_map}
use Rattle.source.specs.declared.ending.Ending.{Ending}
use Rattle.source.specs.Bytes.{hex_pair_of, Bytes}
use Rattle.scanner.specs.declared.kinds.Kind.TheVariants.{HexString}
use Rattle.scanner.specs.Kinds.{token}
use Rattle.scanner.specs.Tokens.{unfit, token_of}

-- bytes that are written in hexadecimal, between < and >, scan as these bytes, and nothing behind the > is looked at
abbrev pub HexLaw : Type 0
HexLaw =
    (room : ℕ) (content behind : List ℕ) (e : Ending) → unfit room ≡ false → length content ≤ room → Bytes content
    → token_of room (60 ∷ (flat_map hex_pair_of content ++ 62 ∷ behind)) e
    ≡ record { answer = Ok (token HexString (length content)); content = content; left = behind; peeked = false }
