-- Lemmas on the definitions.
pub mod Taken
pub mod EachPort
pub mod Totals
pub mod Plain
