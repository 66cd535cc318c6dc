pub mod Globals
pub mod Sheets
pub mod Left
