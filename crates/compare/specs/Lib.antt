pub mod Comparison
pub mod Parts
