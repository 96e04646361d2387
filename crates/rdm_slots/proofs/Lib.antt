pub mod Counts
mod Empty
