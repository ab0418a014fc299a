-- The definitions that the contracts of sha384 cite: FIPS 180-4, and what the entries answer.
pub mod Constants
pub mod Sha384
pub mod Errors
pub mod Entries
