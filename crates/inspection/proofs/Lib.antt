-- Laws of an inspection.
pub mod Reading
pub mod Telling
pub mod Along
pub mod Verdict
pub mod Pieces
