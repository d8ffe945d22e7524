pub mod Commands
pub mod Completion
pub mod Desk
pub mod Needs
pub mod Words
pub mod Tables
pub mod Distances
pub mod Topics
