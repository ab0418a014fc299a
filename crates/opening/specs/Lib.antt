-- The openings of requests and boots: what they are given, the rules that decide, the works they give, and what they answer.
pub mod Orders
pub mod Tasks
pub mod Lent
pub mod Values
pub mod Rules
pub mod Works
pub mod Recorded
pub mod Openings
pub mod Numbers
pub mod Grounds
