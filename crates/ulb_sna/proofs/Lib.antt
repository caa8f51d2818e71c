pub mod Opened
pub mod Determined
