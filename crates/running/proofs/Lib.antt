-- Laws that belong to no one function, and the theorem over every list of steps.
pub mod Agreeing
pub mod Filling
pub mod States
pub mod Theorem
pub mod Cards
