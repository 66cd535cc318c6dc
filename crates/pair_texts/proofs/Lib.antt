pub mod Fetching
pub mod Filling
pub mod Text
