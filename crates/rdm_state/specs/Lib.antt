-- The parts of an endpoint together, and what they show.

-- what they are together
pub mod State
-- that they show an endpoint's record
pub mod Shows
-- what each step makes of them
pub mod Steps
-- that it is what the record's step makes of it
pub mod Laws
-- the same of live sends
pub mod SendLaws
-- and of messages
pub mod MessageLaws
-- and of operations that are accepted, and of lives
pub mod LifeLaws
-- that each operation is counted
pub mod Counted
-- and that answers give bytes of live sends
pub mod Giving
-- and that heads of messages are those of packets
pub mod Fitting
