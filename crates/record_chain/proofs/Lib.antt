pub mod Chain
pub mod Table
pub mod Text
pub mod Walks
pub mod Tops
pub mod Sheets
