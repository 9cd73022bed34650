-- A test of refusal 3, and files that are longer than any accepted one.
pub mod Records
pub mod Long
