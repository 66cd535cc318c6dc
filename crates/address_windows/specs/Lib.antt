pub mod Ascending
pub mod Windows
