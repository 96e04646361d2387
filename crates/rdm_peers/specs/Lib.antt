-- The lives that are known, and what is kept of each.
-- What is kept of one life, and its changes:
pub mod Accounts
-- The table of them:
pub mod Table
-- How both are stored:
pub mod Codes
-- That it shows what an endpoint's record keeps of lives, and that it still does after each change:
pub mod Shown
pub mod Laws
