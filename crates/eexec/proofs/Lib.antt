pub mod Errors
pub mod HeadUses
pub mod CipherBytesUses
pub mod HexUses
pub mod EexecUses
pub mod EexecLawful
