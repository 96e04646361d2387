-- An endpoint's record one step at a time.
-- the steps of one receive or one message
pub mod Steps
-- the losses of which a life's forgetting is made
pub mod Forgets
-- what they rest on
pub mod Premises
-- so all at once is one after another
pub mod Laws
-- what each step leaves orderly
pub mod Orders
-- and that what was heard of stays early
pub mod Heard
-- and receives that wait live and without a message
pub mod Waiting
