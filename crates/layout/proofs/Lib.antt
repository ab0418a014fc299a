-- Laws that belong to no one function.
pub mod Cases
pub mod Tab
pub mod Packing
pub mod Bounded
pub mod Blocks
pub mod Figures
pub mod Extendable
pub mod Told
