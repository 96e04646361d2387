-- The whole state of one live receive.

-- what a clause sees of it, and what its calls leave
pub mod View
-- what it answers, grants, ends with and comes to
pub mod Answers
-- that it shows a live receive of what an endpoint keeps
pub mod Shows
-- what each call comes to, in those words
pub mod Laws
