pub mod Apart
pub mod Entries
pub mod First
pub mod MarkLaws
pub mod Reading
pub mod Rises
pub mod Sweeping
pub mod Walks
