pub mod Places
pub mod Lists
pub mod Held
pub mod Whole
pub mod Laws
pub mod Indices
pub mod Slots
