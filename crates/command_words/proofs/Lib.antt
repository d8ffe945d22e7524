pub mod Naming
pub mod WorkedRows
pub mod WorkedCompletion
pub mod WorkedDesk
pub mod WorkedPreparation
mod WorkedSealing
pub mod Settling
pub mod Splitting
pub mod Missing
pub mod Filling
pub mod Tables
pub mod Lookup
mod WorkedHelp
