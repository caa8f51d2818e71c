pub mod File
pub mod Kept
pub mod Written
