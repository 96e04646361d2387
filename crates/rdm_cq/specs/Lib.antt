-- Items that wait, and reserved places.
pub mod Queue
pub mod Runs
