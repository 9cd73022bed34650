-- Laws on the definitions of `rules`, which the proofs of the code cite.
pub mod Folds
pub mod Ints
pub mod Layouts
pub mod Accepted
pub mod InForce
pub mod Sources
pub mod Chains
