-- The journal: its entries, their bytes, and reading them back.
pub mod Read
pub mod Numbers
pub mod Fields
pub mod Entries
pub mod Journal
pub mod Statements
