-- Eager jobs: ports that open one life each, with messages of one packet. What goes out of them, and what waits.
pub mod EagerDeeds
pub mod EagerDues
pub mod EagerGoes
pub mod EagerPorts
pub mod EagerWorlds
pub mod EagerSteps
pub mod EagerPlayed
pub mod EagerJobs
pub mod MessageOnce
pub mod EagerWaiting
