pub mod Placed
pub mod Laws
pub mod Claims
