pub mod Laws
pub mod Walking
pub mod Places
pub mod Whole
pub mod Lying
pub mod Texts
