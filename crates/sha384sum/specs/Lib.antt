-- The definitions that the contracts of sha384sum cite.
pub mod Hex
pub mod Summed
