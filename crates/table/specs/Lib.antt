-- The store table, its numbers of stores as numerals, and a kind of work as three numbers.
pub mod Table
pub mod Figures
pub mod Coding
