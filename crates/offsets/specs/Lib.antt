pub mod Offset
pub mod Pages
