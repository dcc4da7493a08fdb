pub mod Cuts
pub mod Digits
pub mod Ends
pub mod Forms
pub mod Spaceless
