pub mod Texts
pub mod Pairs
pub mod Worked
