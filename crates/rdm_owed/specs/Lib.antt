-- Answers that are owed.
pub mod Owing
