pub mod Placed
pub mod Profile
pub mod Claims
pub mod Parts
pub mod Left
