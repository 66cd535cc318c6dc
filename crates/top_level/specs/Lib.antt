pub mod TopLevel
pub mod Tops
pub mod Parts
