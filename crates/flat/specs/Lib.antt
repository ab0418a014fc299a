-- A work as words, and the entries over a work in words.
pub mod Flat
pub mod Forms
