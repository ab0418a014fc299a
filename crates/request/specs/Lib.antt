-- What every command's opening tests first.
pub mod Screen
