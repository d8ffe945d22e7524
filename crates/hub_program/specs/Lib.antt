pub mod Places
pub mod Judging
pub mod Growths
pub mod Printing
pub mod Sealing
