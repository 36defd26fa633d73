pub mod Known
pub mod Coverable
pub mod States
pub mod Apart
pub mod Sound
pub mod Operators
