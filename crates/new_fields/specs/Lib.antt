pub mod Edited
pub mod Ranks
pub mod Runs
pub mod Slots
