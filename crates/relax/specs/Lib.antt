pub mod Steps
pub mod Sizes
pub mod Payloads
pub mod Far
pub mod Layouts
