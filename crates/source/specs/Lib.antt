pub mod Bytes
pub mod Hex
pub mod Numbers
pub mod Model
pub mod Laws
pub mod Memory
pub mod Gone
pub mod Reads
