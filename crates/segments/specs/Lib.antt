pub mod Segments
pub mod Parts
