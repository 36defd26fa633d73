pub mod Ranking
pub mod Judging
pub mod Collecting
pub mod Falling
