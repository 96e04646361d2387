-- How a script is read:
pub mod Fields
pub mod Contents
pub mod Ranges
pub mod Instructions
pub mod Programs
pub mod Choices
-- Which scripts are played, and the whole reader:
pub mod Played
pub mod Script
-- What is kept of a script while it is read:
pub mod Drafts
-- What is known of the jobs that come of scripts:
pub mod Laws
