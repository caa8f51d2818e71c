pub mod HelperRange
pub mod Obeyed
pub mod Possible
pub mod Demands
