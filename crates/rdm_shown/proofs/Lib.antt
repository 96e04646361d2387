-- The proof that parts of an endpoint show its record.

-- values under numbers
pub mod Tables
pub mod Lives
-- which values a finite map has
pub mod Values
-- what is found among live receives and sends
pub mod Finding
-- the places of regions
pub mod Areas
-- what is registered, held and named
pub mod Grounds
-- what goes out and comes back
pub mod Leases
-- why ranges are refused
pub mod Refused
-- the bytes that are at home
pub mod HomeBytes
