pub mod Entries
pub mod Compact
pub mod Parts
pub mod Claims
