pub mod Glyphs
pub mod Rows
