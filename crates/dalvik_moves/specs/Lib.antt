pub mod Moving
pub mod Touching
