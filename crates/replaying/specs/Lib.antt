-- Replaying a journal: what its entries come to, what the program writes, and the inspector's theorems.
pub mod Replay
pub mod Asked
pub mod Report
pub mod Cards
pub mod Lives
pub mod Unit
