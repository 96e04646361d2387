-- An endpoint as contracts see it, and what each call makes of it.
pub mod Places
pub mod View
pub mod Counts
pub mod Peers
pub mod Sending
pub mod Receiving
pub mod Cancelling
pub mod Meeting
pub mod Entering
pub mod Handling
pub mod Verdicts
pub mod Going
-- What its lists are of the deeds of its life, where these are eager, and what its calls answer then, as a port tells it.
pub mod Eager
pub mod Keeps
pub mod Answers
