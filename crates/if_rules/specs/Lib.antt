pub mod Added
pub mod Filled
pub mod Fired
pub mod Instances
pub mod Listed
pub mod Lists
pub mod Matched
pub mod Matching
