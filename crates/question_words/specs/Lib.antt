pub mod Values
pub mod Questions
pub mod Desk
