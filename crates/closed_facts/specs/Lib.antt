pub mod Tables
pub mod Found
pub mod Edges
pub mod Entries
pub mod Fields
pub mod Flows
pub mod Calls
pub mod Closed
