-- That a matcher keeps what an endpoint's record says of receives and messages that wait.
pub mod Laws
