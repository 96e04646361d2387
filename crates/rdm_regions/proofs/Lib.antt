-- counts in numbers that do not fall
mod Counts
-- the bytes of a range that is at home
mod HomeBytes
-- places of a region that are at home, and places that are out
pub mod Places
-- ranges that share a place, and sums over ranges
pub mod Meets
-- when a range overlaps a leased one, and when a held one
pub mod Busy
-- ranges that share no place with any of a list
pub mod Apart
-- the entries of a tree map of ranges, beside the finite map of a clause
pub mod Entries
-- why a range is refused
pub mod Refusals
-- what the regions keep, once one of them changes
pub mod RegionChanges
-- the fields of `Regions`, once a range is held or leased, or is so no more
pub mod Changes
-- the regions while a send comes to hold a range, and while it drops it
pub mod Holding
-- the regions while a part of one goes out, and while it comes back
pub mod Leasing
-- the regions once one more is registered, and once nothing is leased
pub mod Registering
-- a map of one entry, once that is taken out
mod Emptied
-- what is true of the regions at all times, as a clause sees them
pub mod Sound
-- holds of several ranges, one after another
pub mod Several
-- the gravest refusal of several ranges
mod Gravest
-- what the holds and leases of others leave as it was
mod Survive
-- a range that goes out and comes back with its bytes
mod Undone
