pub mod Later
pub mod Numbers
pub mod Texts
pub mod Views
pub mod Moved
