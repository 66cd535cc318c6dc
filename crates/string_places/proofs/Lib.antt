pub mod Standing
pub mod Laws
pub mod Filling
pub mod Through
pub mod Claims
