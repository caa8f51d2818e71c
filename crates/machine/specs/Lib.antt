pub mod Numbers
pub mod Limits
pub mod Timing
pub mod Why
pub mod Contended
pub mod Pages
pub mod Paces
