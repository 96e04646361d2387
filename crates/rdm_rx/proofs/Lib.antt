-- Lemmas on the asks of a read.
pub mod Steps
pub mod Padding
pub mod ReadLists
pub mod Windows
pub mod Runs
