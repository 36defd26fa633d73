pub mod Rebound
pub mod Owed
pub mod Nopped
pub mod Spliced
pub mod Copied
pub mod Sites
