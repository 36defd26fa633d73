pub mod Asking
pub mod Telling
pub mod Replies
pub mod Known
pub mod Runs
