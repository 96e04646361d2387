-- What a life owes for what it took: each reply once, in the order in which it was owed.
pub mod Queue
pub mod Answered
pub mod Unique
pub mod Asks
pub mod Owed
pub mod Causes
pub mod Clashes
pub mod NewReplies
pub mod OwedOnce
pub mod Seen
pub mod ReplyDues
