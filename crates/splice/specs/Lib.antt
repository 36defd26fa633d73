pub mod Shifted
pub mod Callees
pub mod Moves
pub mod Places
pub mod Pieces
