-- The proofs on matched messages.

-- the receives of messages beside the hash map that keeps them
mod Kept
