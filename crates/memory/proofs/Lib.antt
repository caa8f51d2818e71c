pub mod Maps
pub mod Parts
pub mod Places
pub mod Locking
pub mod Stored
pub mod Agree
pub mod Screens
