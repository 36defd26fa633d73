mod Counting
pub mod Fated
pub mod Lighter
pub mod Wished
pub mod Unchanged
mod Noting
mod Planning
