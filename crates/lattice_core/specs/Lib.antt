pub mod Laws
pub mod FlatValues
pub mod Lifting
pub mod Pairs
pub mod Places
