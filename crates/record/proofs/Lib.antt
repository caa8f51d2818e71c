pub mod Judged
pub mod Soundness
pub mod Round
pub mod Stored
