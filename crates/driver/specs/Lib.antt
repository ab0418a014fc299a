-- What the steps of a run keep.
pub mod Run
