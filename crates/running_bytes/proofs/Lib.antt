-- Laws that belong to no one function, and the theorem over lent bytes.
pub mod Placing
pub mod Back
pub mod Theorem
