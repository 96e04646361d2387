-- What a life took was pushed by the life that it names, so what it knows agrees with what was sent.
pub mod Pushed
pub mod Wired
pub mod WasDue
pub mod Went
pub mod Known
pub mod Named
pub mod Chains
pub mod Pieces
pub mod Whole
pub mod Sent
pub mod Arrives
pub mod SendsAre
pub mod Carries
pub mod Carried
