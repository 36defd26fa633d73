pub mod Walks
pub mod Ranges
pub mod Loops
mod Rows
pub mod Stands
pub mod Owned
pub mod Covered
pub mod Handed
pub mod Found
pub mod Straightly
