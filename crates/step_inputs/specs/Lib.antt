-- A step put together from the market table, a line's totals and the cutter's answer (Inputs), and that it is document 01's (Steps).
pub mod Inputs
-- A line of an accepted day as the code holds it (Ready).
pub mod Ready
pub mod Steps
-- Where the steps of an accepted line end, and what its payments come to at most.
pub mod Ends
pub mod Paid
