-- The small program of document 01.
pub mod Program
