-- The walks of registered memory.

-- the names that the walks cite
pub mod Steps
-- a run is its bytes, cut and glued
pub mod Runs
-- a block is its bytes beside the rest
pub mod Blocks
-- what a `Vec` over a run owns
pub mod Lodging
-- what is left of a `Vec` whose bytes are out
pub mod Shells
-- the places that parts at home have
mod Cells
-- parts in order, and a place that none of them has
mod Order
-- a part that is taken out
mod Lifts
-- two parts that touch made one
mod Fused
-- a part that is put back
mod Puts
-- one part, once nothing is out
mod Closes
-- bytes that are written over
mod Writes
-- what a home keeps, as its calls have it
mod Homes
-- what may go to another thread
pub mod Sending
-- parts that tile their block
pub mod Tilings
-- a list with others written over a range of it, place by place
pub mod Overlays
-- what taking a part out and putting it back come to
pub mod Undone
