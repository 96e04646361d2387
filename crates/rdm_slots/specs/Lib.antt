-- Numbered places for values.

-- what a clause sees of slots, and what each call makes of them
pub mod Places
-- what the count of values says of the places
pub mod Counts
-- how slots know their empty places
pub mod Kept
-- what slots end as, where a `&mut` to one of their values is returned
pub mod Lends
