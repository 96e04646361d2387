-- The proof that the parts of an endpoint show its record.

-- before any deed, and what leaves the live operations as they are
pub mod Begins
-- receives among others
pub mod Among
-- a receive that is changed
pub mod Changed
-- a receive that is over
pub mod Over
-- live sends
pub mod Sends
-- messages
pub mod Messages
-- operations that are accepted, and lives that are met
pub mod Accepted
-- what goes out
pub mod Pushed
-- lives that are inserted
pub mod Inserted
-- messages that are heard of
pub mod Heard
-- each operation is counted
pub mod Counted
-- answers give bytes of live sends
pub mod Giving
pub mod GivingDeeds
-- heads of messages fit
pub mod Fitting
