pub mod Rebinding
pub mod Receivers
pub mod Retyping
pub mod Asking
pub mod Reasons
