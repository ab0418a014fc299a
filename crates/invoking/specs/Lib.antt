-- What the planning of a tree command answers.
pub mod Planned
