-- The program `replay` over pieces of its input.
pub mod Stages
pub mod Pieces
