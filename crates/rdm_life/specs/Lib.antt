-- What an endpoint keeps of the deeds of its life, and what each deed makes of it.
pub mod Kept
pub mod Memory
pub mod Forgetting
pub mod Lives
pub mod Landing
pub mod Receiving
pub mod Sending
pub mod Handling
-- that each field is what the definitions say
pub mod Keeps
-- and what answers and classes depend on
pub mod Facts
-- what is lent of it while bytes are copied
pub mod Lending
-- what holds of it for each local log
pub mod Laws
