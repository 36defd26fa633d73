pub mod Along
mod FlatSound
mod Reading
pub mod Standing
mod Worlds
mod Local
pub mod Fields
pub mod Stays
mod Entering
pub mod Waiting
mod Calling
mod Steps
mod Returning
mod Given
pub mod Numbers
mod Moving
pub mod Ranges
pub mod RangedRuns
pub mod Living
pub mod Widths
pub mod Ready
pub mod Reaching
pub mod Runs
pub mod ValueSound
pub mod Suits
mod SoundOn
mod ValueNumbers
mod Tests
pub mod Sound
