pub mod Quiet
pub mod Calls
pub mod Told
pub mod Idle
pub mod Quieted
