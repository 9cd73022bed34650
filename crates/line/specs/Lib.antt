-- A line's refusals in the parts that the code works out.
pub mod Parts
