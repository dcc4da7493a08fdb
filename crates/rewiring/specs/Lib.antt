pub mod Trails
pub mod Moves
pub mod Marks
