pub mod Local
pub mod Laws
