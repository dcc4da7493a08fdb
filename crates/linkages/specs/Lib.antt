pub mod Lists
pub mod Paths
pub mod Fences
pub mod Nets
pub mod Places
pub mod Examples
