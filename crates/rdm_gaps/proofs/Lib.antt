-- The proofs on gaps.

-- the places that gaps have
pub mod Covered
-- gaps in order, and a place that none of them has
mod Order
-- how many places from one on are missing
pub mod Runs
-- how many places from one on have come
pub mod Lulls
-- whether a range is missing, by the gap that has its first place
mod Answered
-- a range that is taken
mod Takes
-- two gaps that touch made one
mod Fused
-- a range that is put back
mod Untakes
