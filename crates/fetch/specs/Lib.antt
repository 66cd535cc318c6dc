pub mod Fetch
pub mod Strings
pub mod Parts
pub mod Claims
