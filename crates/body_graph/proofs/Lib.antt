mod Covers
pub mod Links
pub mod Members
mod Reaching
