-- What the journal's functions over byte slices answer.
pub mod Kinds
pub mod Results
pub mod Fields
