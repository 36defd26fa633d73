mod Tables
mod Naming
mod Standing
mod Finding
mod Allowing
mod KindsOfReceivers
mod Plain
pub mod Unbinding
