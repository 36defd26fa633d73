pub mod Computing
pub mod Computed
pub mod EmptyFile
pub mod RunSpelled
pub mod RunFile
pub mod Refused
pub mod Faulty
