pub mod Graph
pub mod Rising
