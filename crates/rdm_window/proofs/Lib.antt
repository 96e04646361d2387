pub mod Maps
pub mod Messages
mod Forgotten
mod Sets
mod Flags
mod Marked
mod Advanced
mod Told
pub mod Awaited
