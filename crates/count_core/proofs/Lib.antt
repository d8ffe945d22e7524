pub mod Answered
pub mod CountLaws
pub mod CountReading
pub mod Crossing
pub mod Flags
pub mod Membership
pub mod Mentions
pub mod Misses
pub mod OuterPlaces
pub mod PlaceNesting
pub mod Ranges
pub mod ReportLaws
pub mod RowMarks
pub mod Unflagged
pub mod Vouching
mod Worked
mod WorkedSealed
pub mod FirstFaults
pub mod SetupLaws
pub mod CountProgress
pub mod CountTexts
pub mod Commas
pub mod Boxes
mod WorkedChecks
