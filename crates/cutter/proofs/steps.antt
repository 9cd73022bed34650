-- Laws that proofs of functions cite.
pub mod Next
pub mod Filling
pub mod Swept
