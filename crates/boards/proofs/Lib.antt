pub mod Held
pub mod Masks
pub mod SmallBoards
