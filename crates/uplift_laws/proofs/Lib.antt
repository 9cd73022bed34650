-- The proof of the shares' laws (Fair) and those of a day (Days).
pub mod Fair
pub mod Days
