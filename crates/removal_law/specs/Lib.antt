pub mod Left
pub mod Agree
pub mod Reach
