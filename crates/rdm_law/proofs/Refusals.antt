-- Drops change nothing but their count, and an instruction is to be tried again only where a pool is full.
pub mod StandsStill
pub mod DroppedOnly
pub mod OwesNothing
pub mod AgainFull
pub mod Counted
