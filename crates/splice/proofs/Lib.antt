pub mod Counting
pub mod Each
pub mod Past
