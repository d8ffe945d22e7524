pub mod Refusals
pub mod Series
pub mod Runs
pub mod Progress
