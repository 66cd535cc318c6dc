pub mod Lists
pub mod Renumbered
pub mod Runs
pub mod Segments
pub mod TextResults
