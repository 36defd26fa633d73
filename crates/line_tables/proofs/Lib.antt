pub mod Walking
pub mod Fronts
pub mod Here
pub mod Turns
pub mod Entries
pub mod ReadBack
pub mod ByEntries
pub mod Shapes
