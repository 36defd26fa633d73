pub mod Overriding
pub mod Starting
