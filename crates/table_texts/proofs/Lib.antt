pub mod Stream
pub mod Reading
pub mod Table
pub mod Size
pub mod Held
pub mod Examples
