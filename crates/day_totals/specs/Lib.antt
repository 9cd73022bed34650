-- Totals and adjusted totals: what each is worked out from, how large it is, and the laws of demand 3 on them.
pub mod Parts
pub mod Sizes
pub mod Balance
pub mod Rows
pub mod Sums
pub mod Money
