pub mod Closed
pub mod Covered
pub mod ValueAnalysis
pub mod Examples
