-- Lemmas on what a port keeps.
pub mod Queued
pub mod Counted
pub mod Fresh
pub mod BuiltDeeds
-- What an instruction answers, and what a port keeps after it:
pub mod NextAgrees
pub mod NextDoes
pub mod NextDeeds
pub mod NextCases
pub mod NextOpens
pub mod NextKept
-- The step of an instruction, and how a port ends:
pub mod NextRoom
pub mod NextSpares
pub mod NextSteps
pub mod Endings
-- Pushes and polls: what goes out next, what they leave, and how they end:
pub mod SilentDeeds
pub mod SilentSteps
pub mod PushAgrees
pub mod PushKept
pub mod PushDoes
pub mod Polled
pub mod Rooms
pub mod StepEnds
-- What fetches put into the stash, and what is made of a datagram that is handled:
pub mod Fetches
pub mod EndpointTakes
pub mod HandleAgrees
pub mod HandleLeaves
pub mod HandleDeeds
pub mod HandleKept
pub mod HandleCases
pub mod HandleDoes
pub mod HandleEnds
-- What each step does with datagrams:
pub mod Moves
