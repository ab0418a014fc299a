-- Laws that belong to no one function.
pub mod Sealing
pub mod Order
pub mod Invoked
