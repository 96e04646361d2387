-- What is kept of a live send, and what is true of it.
pub mod Sending
-- what it begins as,
pub mod Beginning
-- what goes out of it,
pub mod Pushing
-- and what comes for it.
pub mod Coming
