pub mod Devices
pub mod Keys
pub mod Order
pub mod Hearers
pub mod Floating
pub mod Pages
pub mod Terms
