mod Each
mod Left
mod Placing
mod Swapped
mod Tracing
