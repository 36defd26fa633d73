pub mod Reach
pub mod Measure
pub mod Binding
pub mod Rebound
pub mod Asked
pub mod Left
