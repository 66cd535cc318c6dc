pub mod Texts
pub mod Written
