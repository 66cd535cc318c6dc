pub mod Journals
pub mod Claims
