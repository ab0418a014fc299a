-- Laws that belong to no one function.
pub mod Shape
pub mod Parts
pub mod Recorded
pub mod Numbered
pub mod Plans
pub mod Answered
