-- Registered memory.

-- what a clause sees of a part, and what cutting and joining make of it
pub mod Part
-- when parts tile their block
pub mod Tiling
-- what a run of bytes owns, and what an owner of their block
pub mod Ownership
-- what is true of the fields of a part
pub mod Inside
-- what a clause sees of the parts that are at home of a range
pub mod Tiles
-- those parts in order
pub mod Ordered
-- what is true of the fields of a home
pub mod SoundHome
-- what taking a part out and putting it back come to
pub mod Homing
