pub mod Calls
pub mod Jobs
pub mod Steps
pub mod Claims
