-- Laws that belong to no one function.
pub mod Steps
pub mod Ways
pub mod Marks
pub mod Handles
pub mod Rooted
pub mod Apart
pub mod Growing
pub mod WellFormed
pub mod Cycles
pub mod Freeing
pub mod StepByStep
pub mod Exactly
