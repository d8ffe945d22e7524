pub mod Grammar
pub mod Thing
pub mod Loan
pub mod Place
pub mod Day
pub mod Name
pub mod Padded
pub mod VisibleText
