mod Marking
mod Turning
