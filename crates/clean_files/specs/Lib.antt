pub mod OfGraph
