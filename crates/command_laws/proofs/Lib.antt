-- The laws of each command.
pub mod ByOrder
pub mod Indices
pub mod ByCommand
pub mod ByCode
