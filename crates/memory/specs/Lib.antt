pub mod Paging
pub mod Memory
pub mod Screens
pub mod Pages
