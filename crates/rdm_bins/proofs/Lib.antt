mod Places
mod Neighbours
mod Links
mod Changes
mod Items
mod Gathered
mod Along
mod Linked
mod Unlinked
mod Roomy
mod Dropped
mod Below
mod Taken
mod Candidates
pub mod Calls
pub mod Free
