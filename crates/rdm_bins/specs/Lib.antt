-- What waits on a shelf, and in which bins.
pub mod Shelf
pub mod Chains
pub mod Binning
-- what calls come to, in the plain matcher's lists
pub mod Calls
