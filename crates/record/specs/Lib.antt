pub mod Words
pub mod Record
pub mod Sound
