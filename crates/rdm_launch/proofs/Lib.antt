-- Lists that differ in their order alone.
pub mod Reorders
-- A step of a port leaves its log right, and leaves the port in its place.
pub mod Growing
pub mod Placing
pub mod Packings
pub mod Starting
-- What ports in their places left, all together.
pub mod Wholes
pub mod Waiting
pub mod Gathering
