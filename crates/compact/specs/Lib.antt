pub mod Compacted
pub mod Parts
