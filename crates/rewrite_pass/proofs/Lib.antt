mod Counting
mod Planning
mod Writing
