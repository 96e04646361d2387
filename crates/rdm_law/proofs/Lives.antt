-- The deeds of each life, and which life of a port is current.
pub mod Logs
pub mod Lives
pub mod Handled
pub mod Held
pub mod Replaced
pub mod Opened
pub mod Knows
pub mod OneLife
pub mod Stamps
