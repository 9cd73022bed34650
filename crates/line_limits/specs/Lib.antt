-- Refusals 11 to 13 with M and the totals.
pub mod Faults
