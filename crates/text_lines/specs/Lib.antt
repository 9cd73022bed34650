-- The report's lines over plain values, and their laws.
pub mod Lines
