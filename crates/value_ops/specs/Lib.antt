pub mod Left
pub mod Sums
pub mod Numbers
pub mod Tests
pub mod Sound
