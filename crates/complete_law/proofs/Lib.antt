pub mod Files
pub mod Completing
pub mod Standing
pub mod Sound
pub mod Inside
pub mod Least
