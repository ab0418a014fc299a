-- What the reader of a tree command's data answers.
pub mod Told
