pub mod Each
pub mod Formed
pub mod More
pub mod Sizes
pub mod Sublists
pub mod Tables
