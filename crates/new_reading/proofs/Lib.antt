pub mod Views
pub mod Uses
pub mod Listing
pub mod Cells
pub mod Reading
pub mod Texts
