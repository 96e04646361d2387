-- What a wire tells of itself, and what its calls do to it.
pub mod Counts
pub mod Accounts
pub mod Flights
pub mod Queues
