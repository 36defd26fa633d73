mod Tests
mod Numbers
mod Owned
mod Same
pub mod Narrowing
