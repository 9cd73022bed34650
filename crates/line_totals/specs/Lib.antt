-- Sums of rows and tables of numbers.
pub mod Sums
