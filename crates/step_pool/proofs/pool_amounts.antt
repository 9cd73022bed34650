-- Laws that proofs of functions cite.
pub mod Settling
pub mod Kept
pub mod Idle
