pub mod Paths
pub mod Measure
pub mod Example
pub mod Histories
