pub mod Listed
pub mod Marked
pub mod Nested
pub mod Ordered
