pub mod Told
pub mod Code
pub mod Within
