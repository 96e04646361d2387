-- The text of a report.
pub mod Shown
pub mod Words
pub mod Answers
pub mod Pushes
pub mod Polls
pub mod Text
