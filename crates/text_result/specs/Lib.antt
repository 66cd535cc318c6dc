pub mod TextResult
pub mod FromPlace
pub mod Parts
