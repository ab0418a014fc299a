-- Laws of the grounds.
pub mod First
pub mod Parted
