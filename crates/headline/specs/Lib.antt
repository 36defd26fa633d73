pub mod Ended
pub mod Owed
pub mod Admitted
pub mod Headline
