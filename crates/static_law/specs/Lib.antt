pub mod Static
pub mod Receiving
pub mod Examples
pub mod Shut
pub mod Edited
pub mod Candidates
pub mod Kept
