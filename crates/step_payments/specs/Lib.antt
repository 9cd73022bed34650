-- The limits of a step (Sizes), payments as what is paid and taken back (Parts, Kinds), the running sum of the modified ones (Running), and the
-- same as the code's rows (Amounts).
pub mod Sizes
pub mod Parts
pub mod Kinds
pub mod Running
pub mod Amounts
