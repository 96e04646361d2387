-- Lemmas on the definitions.
-- What the matcher of a life keeps:
pub mod Matches
pub mod Numbers
-- Two accounts of the messages that agree on what was heard, and on the bytes of what was received, say the same:
pub mod SameMatches
pub mod SameReceives
pub mod SameRegions
pub mod SameReplies
pub mod SameDues
pub mod SameCompletions
pub mod SameAnswers
pub mod SameClasses
pub mod SameFits
-- What a log says of its messages stays as it grows:
pub mod Grows
pub mod Cuts
pub mod Rows
pub mod Opens
pub mod Dues
pub mod Pushes
pub mod Served
pub mod Sending
pub mod SentTo
