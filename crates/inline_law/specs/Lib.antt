pub mod Inlining
pub mod Accepted
pub mod Entered
pub mod Programs
pub mod Sound
pub mod Examples
pub mod Takes
