pub mod Laws
pub mod Level
