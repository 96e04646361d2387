-- The proofs on the lives that are known.

-- the accounts beside the tree map that keeps them
mod Known
-- what is answered of a life that is not known
mod Strangers
-- which account is that of a life after a change
mod Keys
-- that the table shows the record
mod Shows
-- and the laws of that
pub mod ShownLaws
