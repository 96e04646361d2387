-- A world as contracts see it, and which worlds of the definitions it shows.
pub mod Views
pub mod Shows
-- What its steps make of them:
pub mod Answers
pub mod Steps
-- The joint history of ports:
pub mod Gathers
-- How many rounds a job may need:
pub mod Budgets
pub mod Joined
-- What its report is made of:
pub mod Plays
