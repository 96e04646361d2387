-- What goes out in a fair job fits the wire.
pub mod FairJobs
pub mod Fitting
pub mod SmallBytes
pub mod RegionsFit
pub mod RegionSizes
pub mod AnswersFit
pub mod PacketsFit
pub mod Spans
pub mod SentFits
pub mod RepliesFit
pub mod Headers
pub mod OpeningsFit
pub mod DuesFit
