pub mod Standing
pub mod SameFences
pub mod ByBook
pub mod Shown
pub mod Upheld
pub mod Claiming
pub mod Telling
pub mod SmallRuns
