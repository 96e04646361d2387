-- The proofs on landings.

-- tests that are set over a range, place by place
pub mod SetRanges
-- ranges in order
pub mod Order
-- the places that ranges have, after one is put in or taken out
pub mod Changed
-- what is missing, at home and lent stays in agreement
pub mod Agreed
-- a landing as its calls have it
pub mod LandingViews
-- what is missing or lent
pub mod Waiting
-- what lending a range and taking it back come to
pub mod Laws
-- a range that is lent stays lent over the calls for other ranges
pub mod LoansStay
-- the bytes of places that came before
pub mod Came
-- one turn over places that came and places that are missing
pub mod Passes
-- the first place that waits, and ranges that do
pub mod Fronts
