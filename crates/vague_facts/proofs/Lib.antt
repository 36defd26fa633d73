pub mod Registers
pub mod Bodies
pub mod Going
pub mod Counting
pub mod Framing
pub mod Closing
