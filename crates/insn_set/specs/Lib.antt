pub mod Widths
pub mod Registers
pub mod Flow
pub mod Formats
pub mod Spelling
pub mod Copies
