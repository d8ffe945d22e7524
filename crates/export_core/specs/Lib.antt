pub mod Databases
pub mod Entries
pub mod Literals
pub mod Loans
pub mod Rows
pub mod Script
pub mod Setups
pub mod Statements
