-- Registered regions, and the ranges of them that are held and leased.

-- ranges of regions, and when two overlap
pub mod Ranges
-- what a clause sees of `Regions`, and what its calls answer and leave
pub mod Registry
-- what the calls of one region ask for and leave
pub mod Steps
-- what a region keeps of the ranges, as sums over them
pub mod Weights
-- what the regions keep of the held and leased ranges
pub mod Tallies
-- what is true of the fields of `Regions`
pub mod SoundRegions
-- holds of several ranges
pub mod Holds
-- what is true of regions at all times, and what the holds and leases of others leave as it was
pub mod Survival
