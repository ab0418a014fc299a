-- Laws that belong to no one function.
pub mod Sums
pub mod Bitwise
pub mod Select
pub mod Rotations
pub mod Loading
pub mod Turns
pub mod Ring
pub mod Hashed
