-- Laws of a response and of the input that is used.
pub mod Responses
