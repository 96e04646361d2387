pub mod Known
pub mod Whole
pub mod PlayedJobs
