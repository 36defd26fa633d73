pub mod GlobLemmas
pub mod RowLemmas
