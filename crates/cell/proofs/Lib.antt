pub mod Sizes
pub mod Judging
