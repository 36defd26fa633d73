pub mod Packed
pub mod Ties
pub mod Clashes
pub mod Placed
pub mod Renamed
pub mod Choosing
pub mod Narrow
pub mod Measure
