-- Works as openings make them, and all stores of a work.
pub mod Made
pub mod Run
