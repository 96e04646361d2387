-- Steps of reading, each of which may find something wrong:
pub mod Results
-- What a JSON value says at a key or a place:
pub mod Values
-- What is printed of a refusal:
pub mod Words
