-- The pool of a side and final payments as the code's rows (Amounts), and that they are document 01's (Parts).
pub mod Amounts
pub mod Parts
