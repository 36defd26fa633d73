pub mod Formed
pub mod Grown
mod Sets
pub mod Behind
pub mod Soundly
