-- That parts of an endpoint show its record.

-- regions, with what is leased and held
pub mod Grounds
pub mod GroundLaws
-- current and superseded lives
pub mod Lives
pub mod LifeLaws
-- values under numbers
pub mod Tables
