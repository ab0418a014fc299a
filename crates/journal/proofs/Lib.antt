-- Laws of the journal.
pub mod Bytes
pub mod Says
pub mod Refusals
pub mod Numbers
pub mod Fields
pub mod Entries
pub mod Behind
pub mod Waiting
pub mod Journal
pub mod Vectors
pub mod Decides
