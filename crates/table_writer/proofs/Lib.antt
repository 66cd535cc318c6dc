pub mod Laws
pub mod Starts
pub mod Parts
pub mod Whole
pub mod Many
pub mod Finish
pub mod Stay
