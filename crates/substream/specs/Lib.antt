pub mod Substream
pub mod Parts
