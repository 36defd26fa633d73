pub mod Counts
mod Halts
mod Items
mod Kept
mod Loops
mod Texts
