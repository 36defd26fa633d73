pub mod Faults
pub mod Items
pub mod Parts
pub mod Readings
pub mod Slots
pub mod Steps
pub mod Wildcards
