-- Laws that proofs of functions cite.
pub mod Market
