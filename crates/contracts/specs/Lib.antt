pub mod Timed
pub mod Plain
pub mod Helpers
pub mod Map
pub mod Still
pub mod Snapshots
pub mod Calls
