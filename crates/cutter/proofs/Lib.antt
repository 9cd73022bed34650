-- Laws that only the proofs of the functions cite (Answers), and the certificate's proof (Certificate).
pub mod Answers
pub mod Certificate
