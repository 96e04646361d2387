-- That the calls come to what the record says.

-- bytes that are laid over cells, place by place
mod Laying
-- which places have come
mod Coming
-- a receive that is new, met or filled shows what the record makes of it
pub mod Showing
-- what has come, and what that makes owed
pub mod Fullness
-- what comes back
pub mod Backs
-- loans
pub mod Lent
