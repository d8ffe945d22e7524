mod EachRows
mod CountLemmas
pub mod EntryLocations
pub mod EntryRows
pub mod EntrySpots
mod Locations
pub mod NumberedRows
pub mod Numbers
pub mod Joins
mod LineEnds
mod Members
mod Passing
mod PrintedRows
pub mod Ranges
pub mod SetupRows
mod TableLemmas
pub mod Unchanged
mod WorkedEntries
pub mod WorkedGrowth
mod WorkedLoans
mod WorkedLocations
mod WorkedNowKnown
mod WorkedRows
mod WorkedTables
pub mod WrittenSections
pub mod WrittenText
