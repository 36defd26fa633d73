pub mod Reading
pub mod Ascending
pub mod Staying
