-- The places of the records in force.
pub mod Highest
