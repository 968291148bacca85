pub mod Cipher
pub mod CipherBytes
pub mod Eexec
pub mod EexecSound
pub mod EexecLaw
pub mod EexecExamples
