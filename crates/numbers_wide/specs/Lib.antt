-- Definitions and laws on quotients and remainders. The contract of `multiply_divide` cites arithmetic alone.
pub mod Quotients
