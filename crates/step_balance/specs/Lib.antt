-- Demand 3 on one step's matches.
pub mod Balance
