-- The definitions of FIPS 180-4 that the contracts of sha_block cite.
pub mod Words
pub mod Rounds
pub mod Schedule
pub mod Blocks
