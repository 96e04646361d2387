-- Values under numbers that never repeat.
pub mod Marks
pub mod Numbered
pub mod Ends
pub mod Places
pub mod Lends
pub mod Runs
