pub mod ListUses
pub mod Worked
