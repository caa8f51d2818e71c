pub mod Numbered
pub mod Pattern
pub mod Why
pub mod Bounds
pub mod Delays
pub mod Agree
pub mod Rising
pub mod Reached
