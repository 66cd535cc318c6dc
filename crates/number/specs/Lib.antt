pub mod Float64
pub mod Rk
pub mod Rounding
pub mod Packing
pub mod Amount
