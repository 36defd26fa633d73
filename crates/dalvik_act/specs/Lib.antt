pub mod Acted
pub mod Acting
