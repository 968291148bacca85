pub mod Fill
pub mod Poured
pub mod Deep
