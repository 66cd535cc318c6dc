pub mod Cells
pub mod Reading
pub mod Claims
pub mod Parts
pub mod Scan
