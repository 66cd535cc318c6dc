pub mod Choice
pub mod Walk
pub mod Items
pub mod Bools
