-- A live send, whole, as an endpoint's record keeps it.

-- that it is the record's
pub mod Shows
-- what each call comes to, in the record's words
pub mod Laws
