pub mod RoundTrips
pub mod Attributes
pub mod OneBit
pub mod Shown
pub mod Packed
pub mod Pages
