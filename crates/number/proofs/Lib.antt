pub mod Laws
pub mod Float64
pub mod Rounding
pub mod Units
pub mod Decoding
pub mod Packing
pub mod Means
pub mod Amounts
