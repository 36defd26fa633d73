pub mod Stale
pub mod Searches
pub mod Rereading
pub mod Propagated
