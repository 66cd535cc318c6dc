pub mod NewTable
pub mod Claims
