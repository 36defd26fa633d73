pub mod Plain
pub mod Stretches
pub mod Firsts
pub mod Masks
pub mod Splits
pub mod Named
pub mod Refuted
