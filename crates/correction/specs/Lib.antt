pub mod Correction
pub mod Parts
