pub mod Local
pub mod Laws
pub mod Fetch
pub mod FromPlace
