pub mod Editing
pub mod Kept
