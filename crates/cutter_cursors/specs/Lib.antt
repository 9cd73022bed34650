-- The first break that is at least an end, by search (Search), where the sweep stands (Sweep), the laws of that (Places), and those of
-- the gap to the next end (Gaps).
pub mod Search
pub mod Sweep
pub mod Places
pub mod Gaps
