pub mod Kept
pub mod Bulk
pub mod Fewer
mod Known
pub mod Left
pub mod Made
pub mod Owing
pub mod Passing
pub mod Staying
mod Virtuals
pub mod NoNull
mod Apart
mod Calls
pub mod Coded
pub mod Edited
pub mod MadeStatic
pub mod May
mod Mentions
pub mod Own
pub mod Planned
pub mod PlanStays
mod Walks
pub mod Lists
pub mod Extended
pub mod Bodies
pub mod Plans
pub mod Methods
pub mod Tables
pub mod Protos
pub mod Counts
pub mod Turns
pub mod Whole
