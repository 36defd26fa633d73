pub mod Live
pub mod Liveness
pub mod Sweeps
pub mod Words
