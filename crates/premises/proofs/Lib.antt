pub mod Exact
pub mod Owned
pub mod Reading
pub mod Words
pub mod Plainly
