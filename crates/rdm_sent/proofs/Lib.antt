-- The proof that a live send is the one that an endpoint's record keeps.

-- its openings
pub mod Openers
-- what it begins as
pub mod Begun
-- what goes out of it
pub mod Going
-- grants of it
pub mod Granting
-- asks for its bytes, and answers
pub mod Asking
-- whether all of it was asked for
pub mod Ending
