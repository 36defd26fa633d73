pub mod Positions
pub mod WellFormed
