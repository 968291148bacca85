pub mod FillUses
