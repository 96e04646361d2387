-- The missing places of a message.
pub mod Places
pub mod Ranges
pub mod Inside
