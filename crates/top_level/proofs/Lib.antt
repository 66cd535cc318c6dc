pub mod Bofs
pub mod Laws
pub mod Following
