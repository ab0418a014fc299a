-- Laws that belong to no one function.
mod Stored
mod Answers
mod Recorded
