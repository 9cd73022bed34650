-- The certificate: a day with its quantities within M (Within), demand 3 as one statement (Certificate), what the entry points answer
-- (Answers), in how many schedules a step is paid (Running), which lines the cutter refuses (Refused), and the laws of each schedule's uplift
-- (Uplift). Their proofs are in proofs/.
pub mod Within
pub mod Certificate
pub mod Answers
pub mod Running
pub mod Refused
pub mod Uplift
