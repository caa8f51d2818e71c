pub mod Begun
pub mod Determined
