-- The datagrams of a log, and lists that differ in their order alone.
pub mod Logs
pub mod Reordered
-- When a port with its passes fits its place, and what a turn of it comes to.
pub mod Fitting
pub mod Outcomes
pub mod Packing
-- What a launch is begun with, and what it makes of it.
pub mod Launched
