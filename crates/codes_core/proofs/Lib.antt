pub mod Days
pub mod SpelledDays
pub mod DayTexts
pub mod Parts
pub mod FirstGroup
pub mod Segments
pub mod Texts
pub mod WorkedRows
pub mod WorkedTexts
pub mod Characters
mod Worked
