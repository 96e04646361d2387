-- Messages enter in the order of their numbers, and each message and each receive is matched once at most.
pub mod Merges
pub mod Numbered
pub mod Received
pub mod Others
pub mod Distinct
pub mod Accepts
pub mod MatchedOnce
pub mod MatcherSizes
pub mod Enters
pub mod EntersInOrder
pub mod ComesAsSent
pub mod Forgotten
