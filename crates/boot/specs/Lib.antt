-- What the crate's contracts say of a boot's inputs.
pub mod Given
