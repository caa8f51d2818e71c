pub mod Timing
pub mod Moved
