pub mod PartsUses
pub mod JudgeUses
pub mod SubFileUses
pub mod SubFileExampled
pub mod SubFilePlaces
pub mod SubFileLawful
