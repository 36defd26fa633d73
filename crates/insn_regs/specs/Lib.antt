pub mod Remade
pub mod Wides
