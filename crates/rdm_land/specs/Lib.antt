-- A message's bytes so far.

-- ranges of a message that are lent, in order
pub mod Spans
-- what a clause sees of a landing, and what its calls answer and leave
pub mod Landed
-- what is true of the fields of a landing
pub mod Inside
-- what lending a range and taking it back come to
pub mod Laws
-- what becomes of a range that is lent
pub mod Loans
-- what came of a message before, and what waits
pub mod Arrivals
