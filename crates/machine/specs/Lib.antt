-- One act of the machine, as the code has it.
pub mod Call
