-- The proof that early messages are held as an endpoint's record keeps them.

-- how many keys of a map pass a test
pub mod Counts
-- the bytes of a message that came
pub mod Came
-- which ranges of it are awaited
pub mod Missing
-- the keys of messages
pub mod Keys
-- each call
pub mod Calls
-- a message that is changed
pub mod Changes
-- messages that are taken or forgotten
pub mod Leaving
