-- What the top call promises, and what it stands on.
pub mod Exits
pub mod Reads
pub mod Promise
