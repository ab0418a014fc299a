-- Laws of the orders.
pub mod Whole
pub mod Vectors
