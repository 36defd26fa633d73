mod Few
mod Found
mod Known
mod Dropped
mod Plans
mod Lighter
