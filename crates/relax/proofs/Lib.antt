pub mod Starts
pub mod Least
pub mod Units
