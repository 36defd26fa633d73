pub mod Formats
pub mod SortLemmas
pub mod Known
pub mod Standing
