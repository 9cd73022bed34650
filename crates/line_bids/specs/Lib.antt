-- Refusal 7 (Counts), and refusals 9 and 10 of one bid (Slots).
pub mod Counts
pub mod Slots
