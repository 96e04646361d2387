pub mod Firsts
pub mod Given
pub mod Queues
pub mod Received
pub mod Singles
