pub mod Apart
pub mod Pair
