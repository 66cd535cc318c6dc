pub mod Fields
pub mod Records
pub mod Locality
pub mod Changed
pub mod Planned
