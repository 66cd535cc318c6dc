pub mod Entries
pub mod EntryParts
pub mod Journal
pub mod Parts
