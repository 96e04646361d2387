-- what a send begins as
pub mod Begins
-- and what comes next of it
pub mod Pushing
-- and that asks have room
pub mod Coming
