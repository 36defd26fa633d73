pub mod Rebinding
pub mod Listed
pub mod Receiving
pub mod ByClass
pub mod ByFacts
pub mod Retyping
pub mod Middle
pub mod Others
pub mod Places
mod NoName
mod Positions
mod Regular
mod Entering
mod Keeping
pub mod ByReasons
