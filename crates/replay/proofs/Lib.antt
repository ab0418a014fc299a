-- Laws of pieces fed one after another.
pub mod Fed
