pub mod Loose
pub mod Mentioned
pub mod Candidates
pub mod Marking
pub mod Sieved
pub mod Sifting
pub mod Asked
