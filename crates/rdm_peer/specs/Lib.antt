-- What is known of a life and owed to it.
pub mod Account
pub mod PeerNumbers
