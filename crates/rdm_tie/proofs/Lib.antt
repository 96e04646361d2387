-- The proofs of what a matcher is to an endpoint's record.

-- events of a matcher beside the record
pub mod Events
-- lives that are forgotten
pub mod Forgotten
-- what is told of those that wait
pub mod Told
