-- Laws of counting on an image.
pub mod Sealing
pub mod Within
pub mod MadeOn
pub mod Shown
pub mod Counting
