-- What the program's functions say of the pieces that they feed.
pub mod Fed
