pub mod Apart
pub mod Capped
pub mod Formed
