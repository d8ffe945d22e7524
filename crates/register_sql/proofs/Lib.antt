pub mod Agrees
pub mod Apart
pub mod Texts
pub mod Added
pub mod Removed
pub mod Inserts
pub mod Deletes
pub mod Posted
pub mod Listings
pub mod Cells
pub mod Contents
pub mod Refusals
pub mod Failures
pub mod Ends
pub mod Steps
pub mod Wholes
pub mod Creates
pub mod Created
pub mod Filled
pub mod Prefixes
pub mod Asked
pub mod Rising
pub mod Ascending
pub mod Pairs
pub mod Setups
pub mod Profiles
pub mod Postings
pub mod Binds
pub mod Unfit
pub mod Holds
pub mod Links
pub mod OnlyReading
pub mod Moved
pub mod Stranger
pub mod Ages
pub mod Earlier
pub mod Raised
pub mod Migrations
pub mod Regrown
mod WorkedRows
mod WorkedFirst
mod WorkedFailures
mod WorkedGrowth
pub mod Runs
pub mod Blank
pub mod Newness
pub mod StoredSetups
pub mod SetupFiles
