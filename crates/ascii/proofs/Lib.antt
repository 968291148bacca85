pub mod MadeUses
pub mod Ready4Uses
pub mod AsciiHexUses
pub mod AsciiHexLawful
pub mod Ascii85Uses
pub mod Ascii85Numbers
pub mod Ascii85Spaced
pub mod Ascii85Lawful
