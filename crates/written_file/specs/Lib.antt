pub mod Widths
pub mod Fitting
pub mod Wide
pub mod Behind
pub mod Rises
pub mod Parts
pub mod Reads
pub mod Left
