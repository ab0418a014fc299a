-- A measurement node as a record, and as words.
pub mod Record
