-- The definitions that the contracts of waggleloft cite.
pub mod Digest
