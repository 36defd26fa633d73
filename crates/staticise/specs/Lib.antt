pub mod Judging
pub mod Loosened
pub mod Left
pub mod Ordering
pub mod Planned
pub mod Made
pub mod Called
