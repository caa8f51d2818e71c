pub mod World
pub mod Time
pub mod Turns
pub mod Calls
pub mod Clocks
pub mod Pokes
pub mod Pages
