pub mod Zeros
pub mod Order
pub mod Accepted
