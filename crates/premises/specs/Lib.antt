pub mod Makers
pub mod Numbers
pub mod Owning
pub mod Plain
