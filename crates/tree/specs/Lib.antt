-- The measurement nodes: as a tree, and in an image.
pub mod Tree
pub mod Nodes
pub mod Kinds
pub mod Known
pub mod Statements
