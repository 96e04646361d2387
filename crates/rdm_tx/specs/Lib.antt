-- A send's message, how far its packets were given, where their bytes stand, and what is granted of it.
pub mod Sends
pub mod Laws
pub mod Granting
pub mod GrantLaws
-- What was asked for of a send that is read.
pub mod Asks
pub mod Inside
