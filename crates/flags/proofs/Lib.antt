pub mod Laws
pub mod Clearing
