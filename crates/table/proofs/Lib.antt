-- Laws that belong to no one function.
pub mod ByKind
pub mod Passing
pub mod Figures
