pub mod Lefts
pub mod Answers
pub mod Asked
pub mod Keys
pub mod Kept
