pub mod Coming
pub mod Formed
pub mod Making
pub mod Reaching
pub mod Returned
pub mod Showing
pub mod Standing
pub mod Tabled
