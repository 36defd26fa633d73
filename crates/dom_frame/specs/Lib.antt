pub mod Registers
pub mod Classes
pub mod Steps
