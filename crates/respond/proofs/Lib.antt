-- Laws that belong to no one function.
pub mod Cold
pub mod Input
pub mod Ready
pub mod Output
