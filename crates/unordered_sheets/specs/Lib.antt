pub mod Unordered
pub mod Pair
pub mod Staged
