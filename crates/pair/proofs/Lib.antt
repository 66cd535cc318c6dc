pub mod Laws
pub mod Correcting
