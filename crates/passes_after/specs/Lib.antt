pub mod Upheld
pub mod Local
pub mod Granted
pub mod Stored
