pub mod Vague
pub mod Counting
