-- Rows of five as the code has them.
pub mod Changes
