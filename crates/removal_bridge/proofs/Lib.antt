pub mod Formed
pub mod Listed
pub mod Members
pub mod FirstValues
pub mod Standing
pub mod TypedFormed
pub mod WalkedForms
pub mod Walked
