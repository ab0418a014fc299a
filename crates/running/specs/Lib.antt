-- The running digest: what its entries answer, the theorem over every list of steps, and the cases of the request.
pub mod Running
pub mod Steps
pub mod Cards
