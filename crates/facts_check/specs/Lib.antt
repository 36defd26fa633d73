pub mod Known
pub mod Landing
pub mod Placed
pub mod Bodies
pub mod Tables
