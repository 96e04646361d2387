-- The rule of an inbox, what its passes know, and what is seen of the queues.
pub mod Senders
pub mod Letters
pub mod Passes
pub mod Queues
pub mod Sharing
