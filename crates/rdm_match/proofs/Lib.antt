mod Places
pub mod Cancelled
pub mod Unposted
mod Law
