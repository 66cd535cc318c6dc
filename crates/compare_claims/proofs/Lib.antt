pub mod Claims
pub mod OtherOrder
