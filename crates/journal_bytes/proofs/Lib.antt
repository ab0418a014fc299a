-- Laws of the journal's functions over byte slices.
pub mod Numbers
pub mod Entries
pub mod Writing
