pub mod Claims
pub mod Replaced
pub mod Parts
pub mod Fields
