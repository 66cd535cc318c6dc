pub mod Refused
pub mod Pair
pub mod Parts
