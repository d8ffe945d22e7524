pub mod Characters
pub mod Dashes
pub mod Gathering
pub mod Joining
pub mod Lasts
pub mod Pushing
mod Worked
