-- Heard numbers and early messages.
pub mod Numbers
pub mod Window
pub mod Marks
pub mod HeardFlags
pub mod Message
pub mod Early
pub mod Codes
