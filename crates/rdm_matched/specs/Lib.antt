-- Which receive took which message.
pub mod Matches
