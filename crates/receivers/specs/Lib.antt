pub mod Listing
pub mod Receiving
