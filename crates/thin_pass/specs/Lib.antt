pub mod Wishing
pub mod Weights
pub mod Plans
