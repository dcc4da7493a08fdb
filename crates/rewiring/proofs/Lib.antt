pub mod Relinks
pub mod Stages
pub mod Steps
pub mod Courses
pub mod Sweeping
pub mod Marking
