-- The windows of a long message: they follow each other, and nothing goes beyond what was granted.
pub mod Windows
pub mod WindowsAt
pub mod WindowsSame
pub mod Granted
pub mod FirstPart
pub mod Granting
pub mod Tiled
pub mod Pushing
pub mod GrantsEnd
pub mod GrantsTaken
pub mod GrantsReach
pub mod Allowed
