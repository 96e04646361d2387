mod InMemory
pub mod Several
