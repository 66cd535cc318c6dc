pub mod Judge
pub mod Parts
