pub mod Listing
pub mod Claims
pub mod Parts
pub mod Left
