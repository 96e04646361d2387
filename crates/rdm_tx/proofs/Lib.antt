pub mod Nth
pub mod Numbered
pub mod Laws
pub mod Granting
pub mod GrantLaws
-- how many places were not asked for
pub mod Counts
-- where in a read list an ask lies
pub mod Entries
