-- Figures worked out by hand and by other implementations, as theorems on the definitions (Worked).
pub mod Worked
