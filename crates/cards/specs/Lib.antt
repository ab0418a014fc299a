-- Document 01's bench cards *1 to *9 and 10 as one statement, and its figures as one record.
pub mod Images
pub mod Cards
pub mod Figures
pub mod Digests
