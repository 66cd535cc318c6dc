pub mod Tokens
pub mod Judge
pub mod Parts
