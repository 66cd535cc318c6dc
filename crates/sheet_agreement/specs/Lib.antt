pub mod Agreement
pub mod Slots
