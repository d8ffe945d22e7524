pub mod Accounted
pub mod Agreed
mod AgreedEntries
pub mod Along
pub mod Among
pub mod AppliedRows
pub mod Asked
pub mod Bounds
pub mod Carried
pub mod Differences
pub mod Few
pub mod GrownAnswers
pub mod GrownLists
pub mod GrownNests
pub mod GrownRows
pub mod GrownSetups
pub mod GrownVerdicts
pub mod Guests
pub mod Homes
pub mod KeptLoans
pub mod Known
pub mod LastSpots
pub mod Lined
pub mod LoanAnswers
pub mod LoanLaws
pub mod ObjectNumbers
pub mod Onwards
pub mod Owners
pub mod Placed
pub mod Placements
pub mod Posted
pub mod Refused
pub mod SpotRows
pub mod SpotsAfter
pub mod Spotted
mod Stations
pub mod Turns
mod WorkedAccounts
mod WorkedCrossings
mod WorkedForms
pub mod WorkedGrowth
mod WorkedLoanOrder
mod WorkedLoansIn
mod WorkedLoansOut
mod WorkedPacks
pub mod WorkedRows
mod WorkedSpots
pub mod Written
mod WorkedCulprits
mod WorkedPast
