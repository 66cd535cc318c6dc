pub mod Passing
pub mod Reading
pub mod Writing
