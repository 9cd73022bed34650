-- Laws that several functions' proofs cite.
pub mod Laws
pub mod Idle
pub mod Passes
pub mod Taken
