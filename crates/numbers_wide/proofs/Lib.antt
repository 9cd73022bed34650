-- Laws that the proofs of `numbers_wide` cite.
pub mod Laws
