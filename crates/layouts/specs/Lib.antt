pub mod Layouts
pub mod Readings
pub mod Theorems
pub mod Examples
