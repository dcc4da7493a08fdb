pub mod Words
pub mod Lines
pub mod Verbs
pub mod Grammar
pub mod Rests
pub mod Faults
