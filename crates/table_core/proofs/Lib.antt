pub mod Parts
pub mod Growing
pub mod ObjectParts
pub mod RowFaults
pub mod HeadingSteps
pub mod TableSteps
mod WorkedCells
mod WorkedTables
pub mod Skips
pub mod StartMarks
pub mod WorkedMarks
pub mod CsvRows
pub mod Rows
pub mod Tables
mod Worked
pub mod KeptLabels
pub mod ListedCodes
pub mod LabelFields
pub mod LabelReading
mod WorkedLabels
pub mod Coded
pub mod Uncoded
pub mod GrowingText
pub mod RowMessages
pub mod Hiding
mod WorkedTexts
