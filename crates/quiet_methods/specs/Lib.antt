pub mod Settled
pub mod Steps
pub mod Forms
pub mod Bodies
pub mod Quiet
pub mod Owning
pub mod Falling
