-- What a caller sees of a table and its seats.
pub mod Seating
-- What a seat knows of each place, and the rule of the table.
pub mod Knowing
pub mod Turning
-- What each step tells its seat.
pub mod Telling
-- Values in slots, and the block of memory of a vector.
pub mod Slots
