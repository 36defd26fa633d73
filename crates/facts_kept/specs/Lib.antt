pub mod TypedFolds
pub mod Kept
pub mod Known
pub mod Folds
pub mod Runs
pub mod Names
pub mod Flows
pub mod Apart
