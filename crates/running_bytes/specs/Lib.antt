-- A running state as bytes, what the entries over lent bytes answer, and their theorem.
pub mod Coding
pub mod Entries
pub mod Steps
