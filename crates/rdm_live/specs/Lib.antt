-- The live receives of an endpoint.

-- what a clause sees of them
pub mod View
-- what each call makes of them
pub mod Table
-- how they are kept
pub mod Kept
