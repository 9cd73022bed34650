-- Laws that proofs of functions cite.
pub mod Laws
pub mod Kept
