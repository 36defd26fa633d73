pub mod Header
pub mod Tables
pub mod ClassData
pub mod Class
pub mod Founds
pub mod Code
pub mod Regions
pub mod Items
