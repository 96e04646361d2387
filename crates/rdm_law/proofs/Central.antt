-- The central law both ways: local logs and a wire that delivers once make a lawful history.
pub mod Joint
pub mod Agreed
pub mod Confirmed
pub mod PolledConfirmed
pub mod Lawfully
pub mod LawfulPlayed
pub mod TheLaw
pub mod Says
