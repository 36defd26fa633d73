pub mod Patience
pub mod Queue
pub mod Rows
pub mod Tables
