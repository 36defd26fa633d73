pub mod Accepting
pub mod Asked
pub mod Candidates
pub mod Crowded
pub mod Edited
pub mod Plans
pub mod Rooms
