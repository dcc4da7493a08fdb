pub mod Texts
pub mod Courses
