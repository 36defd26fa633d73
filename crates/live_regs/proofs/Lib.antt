pub mod Masks
mod Operands
mod Seen
mod Sweeping
