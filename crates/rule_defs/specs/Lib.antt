pub mod Examples
pub mod Kept
pub mod Members
pub mod Patterns
