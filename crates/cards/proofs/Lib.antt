-- The proof of the cards, and laws of the images that it cites.
pub mod Serving
pub mod Images
pub mod Program
pub mod Cards
pub mod Figures
pub mod Digests
