pub mod Searches
pub mod Memories
pub mod Courses
pub mod Showing
pub mod Outcomes
pub mod Conditions
