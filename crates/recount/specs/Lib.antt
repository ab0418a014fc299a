-- An entry's work made again on an image.
pub mod OnImage
pub mod Within
