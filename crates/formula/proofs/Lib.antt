pub mod OneToken
pub mod Visits
pub mod Judged
