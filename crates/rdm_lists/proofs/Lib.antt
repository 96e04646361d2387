-- Lists, orders and finite sums: what several crates cite.
-- Tests joined, and values that may be missing:
pub mod Bools
pub mod Options
-- Elements of lists, and what stands at a place:
pub mod Members
pub mod Places
-- Lists by two functions that agree, and what a filter keeps:
pub mod Same
pub mod Filters
-- The numbers below a bound, and sums:
pub mod Below
pub mod Sums
