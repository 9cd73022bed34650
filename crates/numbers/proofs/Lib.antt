-- Laws that the proofs of `numbers` cite.
pub mod Fitting
