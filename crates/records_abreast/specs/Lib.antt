pub mod Abreast
pub mod Pairs
