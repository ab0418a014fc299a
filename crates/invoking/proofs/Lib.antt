-- Laws of the planning.
pub mod Fresh
