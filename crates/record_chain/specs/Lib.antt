pub mod Chain
pub mod Tops
