pub mod Backs
pub mod Entries
pub mod Falls
pub mod Flights
pub mod Invoking
pub mod Needs
pub mod Reaching
pub mod Turns
