-- A port as contracts see it, what is built of it, and what each step makes of it.
pub mod Views
pub mod Built
-- What the code keeps of the log, and what it answers by it:
pub mod Kept
pub mod Machine
-- What each step answers and does, by the definitions:
pub mod Nexts
pub mod Pushes
pub mod Handles
pub mod Polls
-- What each does with datagrams:
pub mod Movings
