pub mod Merge
pub mod Sides
