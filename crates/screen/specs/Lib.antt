pub mod Address
pub mod Colour
pub mod Pixel
pub mod Packed
pub mod Pages
