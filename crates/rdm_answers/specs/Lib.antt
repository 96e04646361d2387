-- What an endpoint owes to other lives.
pub mod Answers
pub mod Laws
pub mod Owing
