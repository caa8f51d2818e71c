pub mod Refusals
pub mod Judges
pub mod Answers
pub mod Order
pub mod Ready
