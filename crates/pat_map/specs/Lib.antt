pub mod Trees
pub mod TreeLaws
pub mod Placings
pub mod UnionLaws
pub mod MapLaws
pub mod Pours
pub mod MapOrder
