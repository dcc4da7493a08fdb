pub mod Plans
pub mod Faults
pub mod Reading
