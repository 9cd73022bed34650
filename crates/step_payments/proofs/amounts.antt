-- Laws that proofs of functions cite.
pub mod Joining
pub mod Signing
