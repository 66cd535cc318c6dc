pub mod Characters
pub mod Lists
