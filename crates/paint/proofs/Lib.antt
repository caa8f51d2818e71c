pub mod Painting
pub mod Fronts
