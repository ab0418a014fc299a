-- By which dpe result a tree command is declined.
pub mod Ground
