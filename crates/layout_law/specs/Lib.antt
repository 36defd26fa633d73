pub mod Shorter
pub mod Circles
pub mod Lower
pub mod Ascending
