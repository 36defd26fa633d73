pub mod Live
pub mod Locals
pub mod Copies
