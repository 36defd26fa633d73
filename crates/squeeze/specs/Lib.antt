pub mod Skipping
pub mod Needed
