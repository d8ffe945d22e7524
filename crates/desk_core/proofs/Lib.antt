pub mod LogLemmas
pub mod TakeLemmas
pub mod SessionLemmas
pub mod OwnLemmas
pub mod LongTexts
pub mod Names
pub mod Splits
pub mod Rejections
pub mod Reports
mod WorkedLines
