pub mod Drafts
pub mod Effects
pub mod Frames
pub mod Giving
pub mod Runs
pub mod States
pub mod Views
pub mod Worlds
