-- The early messages that are held, as an endpoint's record keeps them.
pub mod Held
-- and how each call of what holds them makes what a deed makes of the record
pub mod Laws
