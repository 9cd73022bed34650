-- Laws on the definitions of `rules` on which the steps and the certificate rest.
pub mod Lists
pub mod Ends
pub mod Prices
pub mod Arrays
-- Where the sweep stands.
pub mod Positions
-- The cutter's certificate.
pub mod Certificate
