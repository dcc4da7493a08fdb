pub mod Histories
pub mod Claim
pub mod Steps
pub mod Told
pub mod SmallRuns
pub mod Words
