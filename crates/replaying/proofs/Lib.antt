-- Laws of replaying, and the inspector's theorems.
pub mod Cards
pub mod Counts
pub mod Stores
pub mod Short
pub mod Data
pub mod Honest
pub mod Fits
pub mod Accepted
pub mod Asked
pub mod Converse
pub mod Lives
pub mod Unit
pub mod Inspected
pub mod Vouched
