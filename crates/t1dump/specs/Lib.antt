pub mod Texts
pub mod Written
pub mod Listed
pub mod LinesLaw
pub mod Examples
