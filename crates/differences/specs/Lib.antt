pub mod Differences
pub mod Units
pub mod Claims
