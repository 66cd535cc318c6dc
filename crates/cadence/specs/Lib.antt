pub mod Cadence
pub mod Steps
pub mod Claims
pub mod Left
