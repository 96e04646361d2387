-- What the code looks up and writes.
pub mod Places
pub mod PeersLemmas
pub mod SendingLemmas
pub mod SoundLemmas
pub mod RegionLemmas
pub mod PartsLemmas
pub mod Landing
pub mod MeetingLemmas
pub mod Follows
pub mod Decided
pub mod Welcomed
-- What an endpoint keeps is what the definitions say.
pub mod Options
pub mod Apart
-- Of eager deeds, by what they themselves tell. Lives, and the messages that were heard of:
pub mod Currents
pub mod Told
pub mod Accounts
pub mod Entered
pub mod Entering
pub mod Held
-- What is sent, and what is left to push:
pub mod EagerSends
pub mod Progress
pub mod Greetings
pub mod Pushes
-- What meets, what waits, and what ends by it:
pub mod Accepted
pub mod Pairs
pub mod Ends
pub mod Live
pub mod Early
pub mod EarlyCounts
pub mod Completed
-- What an endpoint keeps, deed by deed:
pub mod Groups
pub mod Still
pub mod PeersOf
pub mod Fills
pub mod Arrivals
pub mod Runs
pub mod KeepsQuiet
pub mod KeepsPushed
pub mod KeepsSend
pub mod KeepsRecv
pub mod KeepsCancel
pub mod Greeted
pub mod KeepsMessage
pub mod KeepsTook
-- What it answers:
pub mod Counts
pub mod Answered
pub mod Instructed
pub mod Classed
pub mod Handled
pub mod Handles
pub mod Bodies
-- In the scene of a port:
pub mod OpenLife
