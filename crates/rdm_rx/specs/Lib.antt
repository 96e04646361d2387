-- What a matched receive asks for, grants and ends with.
pub mod Asking
pub mod Laws
pub mod Left
pub mod Owing
pub mod Receiving
