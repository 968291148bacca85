pub mod Going
pub mod Walk
pub mod Calls
