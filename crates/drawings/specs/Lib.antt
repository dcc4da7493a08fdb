pub mod Nets
pub mod Lawful
pub mod Changes
pub mod Conditions
pub mod Outcomes
pub mod Links
pub mod Following
