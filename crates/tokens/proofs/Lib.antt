pub mod Tokens
pub mod Within
pub mod Formula
