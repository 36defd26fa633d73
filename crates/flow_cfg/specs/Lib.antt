pub mod Listing
pub mod Parts
pub mod Starts
pub mod Walks
