-- Laws that belong to no one function.
pub mod Bytes
pub mod Ended
pub mod Hash
pub mod Sizes
pub mod Refused
