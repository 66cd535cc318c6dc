pub mod CellText
pub mod Parts
