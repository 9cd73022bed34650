-- The proof of F-5's law (Law): where the parts of the old file stand (Places) and what the rules read of it (Written); days that agree on
-- their steps (Days).
pub mod Places
pub mod Written
pub mod Days
pub mod Law
