pub mod Laws
pub mod Made
pub mod Answers
pub mod Prepare
pub mod None
