-- Proofs.
pub mod Lists
-- receives settle one after another, and keep their numbers and ranges
pub mod Settles
pub mod Stays
pub mod SettlesEach
-- messages and receives meet one pair after another
pub mod Pairs
pub mod Meets
-- messages enter one after another
pub mod Arrives
pub mod Numbers
pub mod Enters
-- a record stays orderly as some are left out
pub mod Thinned
pub mod Orderly
pub mod Thinning
-- a receive that is posted, and a piece that lands
pub mod Posts
-- each deed that may be done leaves a record orderly
pub mod Allowed
pub mod Deeds
-- a life is forgotten loss by loss
pub mod Losses
pub mod Forgotten
pub mod ForgottenNext
-- what was heard of stays early
pub mod EarlyLists
pub mod HeardSame
pub mod HeardMeets
pub mod HeardEnters
pub mod HeardSteps
pub mod HeardRuns
pub mod HeardNext
pub mod HeardDeeds
-- receives that wait stay live and without a message
pub mod Waiting
pub mod WaitingDeeds
-- so it is with what is kept of a life
pub mod KeptOrderly
