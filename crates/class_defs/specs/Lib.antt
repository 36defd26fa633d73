pub mod Places
pub mod Members
pub mod Finding
pub mod Starts
pub mod ClassGraph
pub mod Nearest
