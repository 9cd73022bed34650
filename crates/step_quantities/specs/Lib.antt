-- The quantities of one step (Quantities); that the steps' quantities and what no step takes add up to the totals (Adding); how large they
-- are (Bounds).
pub mod Quantities
pub mod Adding
pub mod Bounds
