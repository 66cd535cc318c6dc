pub mod Sets
pub mod Apart
pub mod Pair
