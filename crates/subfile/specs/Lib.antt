pub mod Marks
pub mod Holding
pub mod SubFile
pub mod SubFileSound
pub mod SubFileLaw
pub mod SubFileExamples
