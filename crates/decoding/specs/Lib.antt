pub mod Step
pub mod SoundSteps
pub mod Ends
pub mod Decoding
pub mod DecodeSteps
