pub mod Item
pub mod Seen
pub mod Text
pub mod Entries
