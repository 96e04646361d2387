-- Current and superseded lives.
pub mod Lives
pub mod Runs
